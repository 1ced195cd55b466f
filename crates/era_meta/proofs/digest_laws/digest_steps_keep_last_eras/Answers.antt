use Rattle.std.proofs.Common.{◌≡◌, Some, None, refl}
use Rattle.era_model.specs.Digest.{digest_of}
use Rattle.era_model.specs.Promises.{KeepsLastEras}
use Rattle.era_meta.specs.Digesting.{digested_by}
use Rattle.era_meta.proofs.digest_laws.digest_steps_keep_last_eras.Goals as goal

pub returns : goal.returns
returns c = λ m valid. elim (digest_of m.archive m.array) as (λ step. digest_of m.archive m.array ≡ step → KeepsLastEras m (digested_by m step)) [
  | None ↦ λ is. record { valid = valid; sectors = refl; block_sectors = refl; lasts = λ block. refl }
  | Some step ↦ λ is. c.digest_keeps_last_eras.ensures m step.0 step.1 valid is
] refl
