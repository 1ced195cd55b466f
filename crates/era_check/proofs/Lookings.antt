-- What a look that opened an image or refused it says of a check.
use Rattle.std.proofs.Common.{◌≡◌, ℕ, List, Bool, true, false, refl, ap₂, sym, ◌∙◌, subst}
use Rattle.std.specs.Prelude.{Option, Some, None, if◌then◌else◌}
use Rattle.std.proofs.lemmas.List.{ext_get_or}
use Rattle.era_base.specs.CrashModel.{State, SameBut}
use Rattle.era_base.specs.declared.disk.Disk.{Ghosts}
use Rattle.era_base.proofs.Moments.{went-now}
use Rattle.era_layout.specs.Root.{RootFields, fields_of}
use Rattle.era_model.specs.Marks.{BlockMarks, rolled}
use Rattle.era_meta.specs.declared.metadata.Meta.{Meta}
use Rattle.era_meta.specs.declared.refusal.MetaError.{MetaError}
use Rattle.era_meta.specs.declared.refusal.MetaError.TheVariants as error
use Rattle.era_meta.specs.Damage.{root_in}
use Rattle.era_meta.specs.Held.{snapshot_marks, snapshot_root}
use Rattle.era_meta.specs.InMemory.{meaning_in}
use Rattle.era_meta.specs.Meaning.{Meaning, IsImageOf, IsWholeRoot, pages_in}
use Rattle.era_meta.specs.Openings.{IsLooked, Tried}
use Rattle.era_meta.specs.Status.{TellsUsage}
use Rattle.era_meta.specs.Trials.{look_trials}
use Rattle.era_meta.specs.Usage.{used_by}
use Rattle.era_check.specs.Checks.{IsCleanImage, checked_of, refusal_in}

-- want of memory says less than any refusal that no look makes
tried-memory : (D : Type 0) (disk : Ghosts D) (old new : D) (why : MetaError) → disk.faults new ≡ disk.faults old
    → Tried disk look_trials old new (Some why) → Tried disk look_trials old new (Some error.Memory)
tried-memory D disk old new why kept tried = record {
  told = λ tells. let was = tried.told tells in record { went = was.went; calls = was.calls; time = was.time; found = tt };
  same = tried.same;
  cause = kept;
}

pub tried-checked : (D : Type 0) (disk : Ghosts D) (old new : D) (why : MetaError)
    → Tried disk look_trials old new (Some why) → Tried disk look_trials old new (refusal_in (checked_of why))
tried-checked D disk old new (error.MetaSmall have need) tried = tried
tried-checked D disk old new (error.Fault count) tried = tried
tried-checked D disk old new error.Unformatted tried = tried
tried-checked D disk old new (error.Damaged kind block) tried = tried
tried-checked D disk old new error.Memory tried = tried
tried-checked D disk old new (error.WrongGeometry kept asked) tried = tried-memory D disk old new (error.WrongGeometry kept asked) tried.cause tried
tried-checked D disk old new error.EraEnd tried = tried-memory D disk old new error.EraEnd tried.cause tried
tried-checked D disk old new (error.SequenceEnd number) tried = tried-memory D disk old new (error.SequenceEnd number) tried.cause tried

-- nothing has changed of what is read
seen-same : (before now : State) → SameBut 0 0 before now → now.seen ≡ before.seen
seen-same before now same = ext_get_or 0 now.seen before.seen same.bytes (λ i lt. same.seen i (λ above. above))

-- what is stored, with nothing ahead of it
stored-marks : (unstored : Bool) (marks stored : BlockMarks) → marks ≡ (if unstored then rolled stored else stored) → unstored ≡ false → marks ≡ stored
stored-marks true marks stored is none = absurd cc
stored-marks false marks stored is none = is

module _ (D : Type 0) (disk : Ghosts D) (lent : D) (meta : Meta D) where
  -- the metadata is what the image stands for
  pub clean-image : (era used : ℕ) → IsLooked disk lent meta → Tried disk look_trials lent meta.slots.disk None → era ≡ meta.marks.era
      → (disk.tells ≡ true → TellsUsage meta used) → disk.tells ≡ true → IsCleanImage (disk.history lent).now.seen era used
  clean-image era used looked tried present usage tells =
      let now = (disk.history meta.slots.disk).now in
      let stands = looked.standing.stands tells in
      let read = looked.told tells in
      let told = usage tells in
      let marks = stored-marks meta.unstored meta.marks (meaning_in now meta).marks stands.says looked.stored in
      let meaning : Meaning = record { marks = meta.marks; held = snapshot_marks meta.snapshot } in
      let same : meaning_in now meta ≡ meaning = ap₂ (λ (m : BlockMarks) (h : Option BlockMarks). record { marks = m; held = h }) (sym marks) stands.held in
      let seen : now.seen ≡ (disk.history lent).now.seen =
      seen-same (disk.history lent).now now (went-now (SameBut 0 0) (disk.history lent) (disk.history meta.slots.disk) (tried.told tells).went) in
      record {
        meaning = meaning;
        stands = subst (λ m. IsImageOf m (disk.history lent).now.seen) same read.stored;
        present = present;
        usage = told.usage;
        exact = record {
          held = snapshot_root meta.snapshot;
          whole = subst (λ s. IsWholeRoot (pages_in s) (root_in (disk.history lent).now.seen) (snapshot_root meta.snapshot)) seen
              (subst (λ (r : RootFields). IsWholeRoot (pages_in now.seen) r (snapshot_root meta.snapshot)) (sym read.root) stands.keeps.kept.whole);
          exact = subst (λ (r : RootFields). used ≡ used_by r (snapshot_root meta.snapshot)) (sym read.root) told.exact;
        };
      }
