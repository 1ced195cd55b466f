-- A stripe over a disk of which nothing is pending stands in the session that opens with what the disk reads as.
use Rattle.std.proofs.Common.{◌≡◌, ℕ, ◌-◌, ◌/◌, ◌<◌, true, false, List, [], ◌∷◌, length, replicate, arith, sym, ap, ◌∙◌, subst}
use Rattle.std.specs.Prelude.{slice_index}
use Rattle.std.proofs.lemmas.List.{get_or-replicate, length-replicate}
use Rattle.era_base.specs.CrashModel.{State, IsClean}
use Rattle.era_model.specs.History.{contents_of}
use Rattle.era_model.specs.Writes.{block_bytes}
use Rattle.era_model.specs.declared.history.Happening.TheVariants.{Opened}
use Rattle.era_model.specs.declared.opening.Opening.{Opening}
use Rattle.era_notes.specs.Parts.{Part, HoldsContent, bytes_in, offset_in}
use Rattle.era_notes.proofs.Offsets.{byte-at, byte-on_disk, byte-within}
use Rattle.era_stripe_scripts.specs.Benches.{IsBlank}

-- nothing of a blank disk is pending
pub blank-clean : (state : State) → IsBlank state → IsClean state
blank-clean state blank = rw blank (λ offset low. let zeros : List ℕ = replicate 10240 0 in let size : length zeros ≡ 10240 = length-replicate {A = ℕ} 10240 0 in get_or-replicate 20 (offset / 512) false true (omega (arith, size, low)))

-- the blocks of such an opening are those of the part
same-bytes : (opening : Opening) (part : Part) (seen : List ℕ) (block : ℕ) → opening.geometry.block_sectors ≡ part.size → part.first ≡ 0 → contents_of opening ≡ seen
    → block_bytes opening.geometry.block_sectors (contents_of opening) block ≡ bytes_in part seen block
same-bytes opening part seen block size first same =
    let here : block ≡ block - part.first = omega (arith, first) in
    ap (λ n. block_bytes n (contents_of opening) block) size ∙ ap (λ bytes. block_bytes part.size bytes block) same ∙ ap (block_bytes part.size seen) here

pub clean-holds : (opening : Opening) (part : Part) (state : State) → opening.geometry.block_sectors ≡ part.size → part.first ≡ 0 → contents_of opening ≡ state.seen → IsClean state
    → HoldsContent part (Opened opening ∷ []) state
clean-holds opening part state size first same clean = record {
  sizes = λ block is. ap length (same-bytes opening part state.seen block size first same);
  bytes = λ block offset is within clear.
      let bytes = same-bytes opening part state.seen block size first same in
      let there : offset < length (bytes_in part state.seen block) = subst (λ (b : List ℕ). offset < length b) bytes within in
      record {
        same = sym (byte-at part state.seen block offset (byte-within part state.seen block offset there)) ∙ ap (λ (b : List ℕ). slice_index b offset) (sym bytes);
        clean = clean (offset_in part block offset) (byte-on_disk part state.seen block offset there);
      };
}
