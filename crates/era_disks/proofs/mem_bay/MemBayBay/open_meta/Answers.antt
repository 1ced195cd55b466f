use Rattle.std.proofs.Common.{◌≡◌, Vec, Global, ℕ, length, Some, inl, inr, arith, refl, sym, ◌∙◌, ap, subst}
use Rattle.std.proofs.lemmas.Bool.{false≢true}
use Rattle.std.proofs.lemmas.Option.{same_Some}
use Rattle.era_disks.specs.Devices.{device_size, device_of}
use Rattle.era_disks.specs.MemBay.{IsRefusedAt, reads_of}
use Rattle.era_disks.specs.declared.device.Device.{Device}
use Rattle.era_disks.proofs.FirstDevice.{found-along, found-device, if_ok_then}
use Rattle.std.specs.Prelude.{Result, Ok, Err, IfOk}
use Rattle.era_base.specs.Bay.{ReadsAs}
use Rattle.era_disks.specs.MemDisk.{state_of}
use Rattle.era_disks.proofs.mem_bay.MemBayBay.open_meta.Goals as goal

if_ok_both : {T E : Type 0} (r : Result T E) {P Q R : T → Type 0} → IfOk r P → IfOk r Q → ((x : T) → P x → Q x → R x) → IfOk r R
if_ok_both (Ok x) p q f = f x p q
if_ok_both (Err e) p q f = p

pub open_at-requires : goal.open_at-requires
open_at-requires c =
    let found = found-along c.as_slice.result.now c.args.self.now.devices.items c.args.name.now c.args.name.now c.in-Some.index
    c.as_slice.ensures.value refl c.in-Some.ensures.some in
    let here = found-device c.args.self.now.devices.items c.args.name.now c.in-Some.index found c.index.result.now c.index.ensures in
    record { found = found; fits = omega (arith, c.sectors-sectors.ensures, ap (λ (d : Device). length d.state.rows.items) here) }

pub returns-in-Some-clause-whole : goal.returns-in-Some-clause-whole
returns-in-Some-clause-whole c =
    let found = found-along c.as_slice.result.now c.args.self.now.devices.items c.args.name.now c.args.name.now c.in-Some.index
    c.as_slice.ensures.value refl c.in-Some.ensures.some in
    let here = found-device c.args.self.now.devices.items c.args.name.now c.in-Some.index found c.index.result.now c.index.ensures in
    if_ok_then c.open_at.result c.open_at.ensures.place (λ disk is.
    ap (λ (ds : Vec Device Global). device_size (device_of ds.items c.args.name.now)) c.open_at.ensures.rest.0
    ∙ ap device_size found.found
    ∙ ap (λ (n : ℕ). Some n) (sym (ap (λ (d : Device). length d.state.rows.items) here) ∙ sym c.sectors-sectors.ensures ∙ sym is.1))

pub returns-in-Some-clause-refused : goal.returns-in-Some-clause-refused
returns-in-Some-clause-refused c =
    let found = found-along c.as_slice.result.now c.args.self.now.devices.items c.args.name.now c.args.name.now c.in-Some.index
    c.as_slice.ensures.value refl c.in-Some.ensures.some in
    let here = found-device c.args.self.now.devices.items c.args.name.now c.in-Some.index found c.index.result.now c.index.ensures in
    let size : c.sectors-sectors.result ≡ length found.device.state.rows.items =
    c.sectors-sectors.ensures ∙ ap (λ (d : Device). length d.state.rows.items) here in
    let told = ap device_size found.found in
    let refused_at = IsRefusedAt c.args.self.now c.args.name.now 0 in (
      c.open_at.ensures.refused.0,
      (
        λ failed. inr (λ n is. subst refused_at (size ∙ same_Some (length found.device.state.rows.items) n (sym told ∙ is)) (c.open_at.ensures.refused.1.0 failed)),
        λ wont. elim wont [
          | inl fails ↦ absurd (false≢true (sym c.if-begin.false ∙ c.begin.ensures.fails.1 fails))
          | inr refused ↦ c.open_at.ensures.refused.1.1 (subst refused_at (sym size) (refused (length found.device.state.rows.items) told))
        ],
      ),
    )

pub returns-in-Some-clause-content : goal.returns-in-Some-clause-content
returns-in-Some-clause-content c =
    if_ok_both c.open_at.result c.open_at.ensures.place c.open_at.ensures.content
    (λ disk is reads. subst (λ n. ReadsAs (reads_of c.args.self.now) c.args.name.now 0 n (state_of disk.state)) (sym is.1) reads)
