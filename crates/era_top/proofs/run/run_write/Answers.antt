use Rattle.std.proofs.Common.{◌≡◌, ℕ, ◌+◌, ◌*◌, Bool, true, false, not, List, length, Err, refl, sym, ◌∙◌, subst, inl, inr}
use Rattle.era_base.specs.Calls.{WritesThenSyncs}
use Rattle.era_base.specs.CrashModel.{History, SameBut}
use Rattle.era_top.proofs.run.run_write.Goals as goal

not_not : (b : Bool) → not (not b) ≡ b
not_not true = refl
not_not false = refl

-- a write or its sync failed: outside of its sectors nothing has changed
torn : (first : ℕ) (bytes : List ℕ) (faults : ℕ) (old new : History) → WritesThenSyncs {T = Unit {0}} {E = ℕ} first bytes (Err faults) old new
    → SameBut (first * 512) (first * 512 + length bytes) old.now new.now
torn first bytes faults old new told = elim told [
  | inl failed ↦ failed.outcome
  | inr both ↦ subst (SameBut (first * 512) (first * 512 + length bytes) old.now) (sym both.synced.outcome) both.wrote.same
]

-- the write is on the disk
pub returns-in-Ok-clause-went : goal.returns-in-Ok-clause-went
returns-in-Ok-clause-went g c = (
  record {
    place = (c.in-Some.block, c.in-Some.field-0-1);
    placed = record {
      found = rw (← c.as_slice-bytes.ensures) (sym c.place_of.ensures.value ∙ c.in-Some.is);
      block = c.in-Some.ensures.block;
      sector = c.in-Some.ensures.sector;
      in_block = rw (← c.as_slice-bytes.ensures) c.in-Some.ensures.within.0;
      in_origin = rw (← c.as_slice-bytes.ensures) c.in-Some.ensures.within.1;
    };
    was = sym c.is_marked-first.ensures.value ∙ sym (not_not c.is_marked-first.result);
    now = c.mark.ensures.value;
    lasts = c.mark.ensures.lasts;
    bounded = c.is_marked-first.ensures.lasts;
  },
  c.in-Ok.ensures.cause.cause.kept,
  (λ tells.
      let told = c.in-Ok.ensures.told tells in
      record { seen = rw (← c.as_slice-bytes.ensures) (told.synced.outcome.seen ∙ told.wrote.seen); clean = told.synced.outcome.clean }),
)

-- the disk failed
pub returns-in-Err-clause-went : goal.returns-in-Err-clause-went
returns-in-Err-clause-went g c = (
  record {
    place = (c.in-Some.block, c.in-Some.field-0-1);
    placed = record {
      found = rw (← c.as_slice-bytes.ensures) (sym c.place_of.ensures.value ∙ c.in-Some.is);
      block = c.in-Some.ensures.block;
      sector = c.in-Some.ensures.sector;
      in_block = rw (← c.as_slice-bytes.ensures) c.in-Some.ensures.within.0;
      in_origin = rw (← c.as_slice-bytes.ensures) c.in-Some.ensures.within.1;
    };
    was = sym c.is_marked-first.ensures.value ∙ sym (not_not c.is_marked-first.result);
    now = c.mark.ensures.value;
    lasts = c.mark.ensures.lasts;
    bounded = c.is_marked-first.ensures.lasts;
  },
  record { told_now = c.in-Err.ensures.cause.count; rose = c.in-Err.ensures.cause.cause.failed },
  (λ tells. rw (← c.as_slice-bytes.ensures) (torn _ _ c.in-Err.faults _ _ (c.in-Err.ensures.told tells))),
)
