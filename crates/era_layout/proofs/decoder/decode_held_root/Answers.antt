use Rattle.std.proofs.Common.{◌≡◌, false, sym, arith}
use Rattle.era_layout.specs.Root.{RootFields, IsValidRoot, root_bytes}
use Rattle.era_layout.specs.Numbers.{AreBytes}
use Rattle.era_layout.specs.Damage.{HeldPasses}
use Rattle.era_layout.proofs.FirstKind.{Decoded, decoded_has, decoded_is, refused_by}
use Rattle.era_layout.proofs.HeldRoot.{held_passes, none_held, passes_held}
use Rattle.era_layout.proofs.RootRead.{bytes_again, is_valid}
use Rattle.era_layout.proofs.RootWritten.{stands, read_back}
use Rattle.era_layout.proofs.decoder.decode_held_root.Goals as goal

decoded : (c : goal.After-read_tested) → Decoded c.args.bytes.now (HeldPasses c.args.bytes.now) c.check_held_root.result c.read_tested.result
decoded c = record { none = c.check_held_root.ensures.none; first = c.check_held_root.ensures.first; read = c.read_tested.ensures }

pub returns-clause-ok : goal.returns-clause-ok
returns-clause-ok c =
    let bytes = c.args.bytes.now in
    let fits : AreBytes bytes = λ i. omega (arith, c.type_inv.bytes i) in
    decoded_has bytes (HeldPasses bytes) (λ (root : RootFields). IsValidRoot root × (root.held ≡ false) × (root_bytes root ≡ bytes)) c.check_held_root.result c.read_tested.result
    (λ none. (is_valid bytes fits (held_passes bytes none), none_held bytes none, bytes_again bytes c.requires fits (held_passes bytes none))) (decoded c)

pub returns-clause-again : goal.returns-clause-again
returns-clause-again c = λ root valid free is.
    let bytes = c.args.bytes.now in
    let s = stands root bytes _ valid (sym is) in
    decoded_is bytes (HeldPasses bytes) root c.check_held_root.result c.read_tested.result (passes_held root bytes valid free s) (read_back root bytes valid s) (decoded c)

pub returns-clause-refused : goal.returns-clause-refused
returns-clause-refused c = refused_by c.args.bytes.now (HeldPasses c.args.bytes.now) c.check_held_root.result c.read_tested.result (decoded c)
