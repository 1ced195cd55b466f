-- Trials of an opening, one behind the other, and what the parts of an opening make of them.
use Rattle.std.proofs.Common.{◌≡◌, ℕ, ◌+◌, ◌<◌, ◌≤◌, true, List, ◌++◌, Option, Some, None, Ok, Err, refl, sym, ◌∙◌, subst, arith}
use Rattle.std.specs.Prelude.{MatchOption}
use Rattle.std.proofs.lemmas.List.{ext_get_or}
use Rattle.era_base.specs.Calls.{SameDisk}
use Rattle.era_base.specs.CrashModel.{State, History, SameBut}
use Rattle.era_base.specs.Geometry.{need_of}
use Rattle.era_base.specs.declared.disk.Disk.{Ghosts}
use Rattle.era_base.proofs.Moments.{went-none, went-now, went-join, went-wider}
use Rattle.era_layout.specs.Root.{RootFields}
use Rattle.era_slots.specs.declared.slots.Slots.{Slots}
use Rattle.era_meta.specs.declared.finding.Finding.{Finding}
use Rattle.era_meta.specs.declared.finding.Finding.TheVariants as finding
use Rattle.era_meta.specs.declared.refusal.MetaError.{MetaError}
use Rattle.era_meta.specs.declared.refusal.MetaError.TheVariants.{MetaSmall}
use Rattle.era_meta.specs.Content.{blocks_of_root}
use Rattle.era_meta.specs.Damage.{PassAll, root_tests, root_in, held_in}
use Rattle.era_meta.specs.Openings.{TriedIn, Tried, HasErrorCause, HasOpeningCause}
use Rattle.era_meta.specs.Trials.{Trial, Holds, HoldAll, EndsOpening, all_calls, metadata_blocks, opened_trials, error_of_finding}
use Rattle.era_meta.specs.Walks.{IsFoundIn, IsNoFault, HasFindingCause, Walked}
use Rattle.era_meta.proofs.Agree.{all_both}
use Rattle.era_meta.proofs.Refusals.{ends-back, calls-both}
use Rattle.era_meta.proofs.Tried.{slot_roots, tried-roots, tried-small, tried-reached, tried-hold}

pub seen-same : (before now : State) → SameBut 0 0 before now → now.seen ≡ before.seen
seen-same before now same = ext_get_or 0 now.seen before.seen same.bytes (λ i lt. same.seen i (λ above. above))

pub same-still : (state : State) → SameBut 0 0 state state
same-still state = record { bytes = refl; flags = refl; seen = λ offset out. refl; clean = λ offset out is. is }

pub same-as : (before now : State) → now ≡ before → SameBut 0 0 before now
same-as before now is = subst (λ (state : State). SameBut 0 0 before state) (sym is) (same-still before)

pub same-then : (before mid now : State) → SameBut 0 0 before mid → SameBut 0 0 mid now → SameBut 0 0 before now
same-then before mid now one two = record {
  bytes = two.bytes ∙ one.bytes;
  flags = two.flags ∙ one.flags;
  seen = λ offset out. two.seen offset out ∙ one.seen offset out;
  clean = λ offset out is. two.clean offset out (one.clean offset out is);
}

found-then : (have : ℕ) (seen : List ℕ) (xs ys : List Trial) (calls all : ℕ) (refused : Option MetaError) → HoldAll have seen xs → all ≡ all_calls xs + calls
    → MatchOption refused (HoldAll have seen ys × (calls ≡ all_calls ys)) (EndsOpening have seen ys calls)
    → MatchOption refused (HoldAll have seen (xs ++ ys) × (all ≡ all_calls (xs ++ ys))) (EndsOpening have seen (xs ++ ys) all)
found-then have seen xs ys calls all None hold is found =
    let sum = calls-both xs ys in
    let own = found.1 in
    (all_both (Holds have seen) xs ys hold found.0, omega arith)
found-then have seen xs ys calls all (Some error) hold is ends = ends-back have seen xs ys calls all error hold is ends

-- trials behind those that hold
pub tried-then : (have : ℕ) (xs ys : List Trial) (old mid new : History) (refused : Option MetaError) → TriedIn have xs old mid None → TriedIn have ys mid new refused
    → TriedIn have (xs ++ ys) old new refused
tried-then have xs ys old mid new refused one two =
    let first = one.time in
    let second = two.time in
    let own = one.found.1 in
    record {
      went = went-join (SameBut 0 0) (SameBut 0 0) (SameBut 0 0) old mid new one.went two.went (λ state is. is) (λ state is is'. same-then old.now mid.now state is is');
      calls = one.calls + two.calls;
      time = omega arith;
      found = found-then have old.now.seen xs ys two.calls (one.calls + two.calls) refused one.found.0 (omega arith)
          (subst (λ (seen : List ℕ). MatchOption refused (HoldAll have seen ys × (two.calls ≡ all_calls ys)) (EndsOpening have seen ys two.calls))
          (seen-same old.now mid.now (went-now (SameBut 0 0) old mid one.went)) two.found);
    }

-- no call was made
pub tried-still : {D : Type 0} (disk : Ghosts D) (trials : List ℕ → List Trial) (at : D) (error : MetaError)
    → (disk.tells ≡ true → EndsOpening (metadata_blocks (disk.sectors at)) (disk.history at).now.seen (trials (disk.history at).now.seen) 0 error)
    → HasErrorCause (disk.faults at) (disk.faults at) error → Tried disk trials at at (Some error)
tried-still disk trials at error ends cause = record {
  told = λ told. record {
    went = went-none (SameBut 0 0) (disk.history at) (same-still (disk.history at).now);
    calls = 0;
    time = omega arith;
    found = ends told;
  };
  same = record { place = refl; size = refl };
  cause = cause;
}

quiet-cause : (count : ℕ) (f : Finding) → IsNoFault f → HasErrorCause count count (error_of_finding f)
quiet-cause count (finding.Fault n) none = absurd none
quiet-cause count (finding.Damage kind block) none = refl
quiet-cause count finding.Memory none = refl

finding-cause : (before now : ℕ) (f : Finding) → HasFindingCause before now f → HasErrorCause before now (error_of_finding f)
finding-cause before now (finding.Fault count) cause = cause
finding-cause before now (finding.Damage kind block) cause = cause
finding-cause before now finding.Memory cause = cause

-- the roots were refused
pub roots-end : {D : Type 0} (disk : Ghosts D) (at : D) (f : Finding) (error : MetaError) → error ≡ error_of_finding f → IsNoFault f
    → (disk.tells ≡ true → IsFoundIn (disk.history at).now.seen slot_roots f) → Tried disk opened_trials at at (Some error)
roots-end disk at f error is none found =
    subst (λ (e : MetaError). Tried disk opened_trials at at (Some e)) (sym is)
    (tried-still disk opened_trials at (error_of_finding f)
    (λ told. tried-roots (metadata_blocks (disk.sectors at)) (disk.history at).now.seen f (found told)) (quiet-cause (disk.faults at) f none))

-- the root's blocks aren't there
pub small-ends : {D : Type 0} (disk : Ghosts D) (at : D) (have need : ℕ) (root : RootFields) → have ≡ metadata_blocks (disk.sectors at) → need ≡ need_of (blocks_of_root root)
    → have < need → (disk.tells ≡ true → PassAll (disk.history at).now.seen slot_roots) → (disk.tells ≡ true → root_in (disk.history at).now.seen ≡ root)
    → Tried disk opened_trials at at (Some (MetaSmall have need))
small-ends disk at have need root is needs small pass newest =
    tried-still disk opened_trials at (MetaSmall have need)
    (λ told. subst (λ (n : ℕ). EndsOpening n (disk.history at).now.seen (opened_trials (disk.history at).now.seen) 0 (MetaSmall have need)) is
    (tried-small have need (disk.history at).now.seen root (pass told) (newest told) needs small)) refl

-- what the root reaches was read
pub reached-ends : {D T : Type 0} (disk : Ghosts D) (old new : Slots D) (root : RootFields) (f : Finding) (error : MetaError) → error ≡ error_of_finding f
    → need_of (blocks_of_root root) ≤ metadata_blocks (disk.sectors old.disk)
    → (disk.tells ≡ true → PassAll (disk.history old.disk).now.seen slot_roots) → (disk.tells ≡ true → root_in (disk.history old.disk).now.seen ≡ root)
    → Walked {T = T} disk (root_tests root (held_in (disk.history old.disk).now.seen)) old new (Err f) → Tried disk opened_trials old.disk new.disk (Some error)
reached-ends disk old new root f error is room pass newest walked =
    subst (λ (e : MetaError). Tried disk opened_trials old.disk new.disk (Some e)) (sym is) (record {
      told = λ told.
          let w = walked.told told in
          record {
            went = went-wider (λ before now. now ≡ before) (SameBut 0 0) (disk.history old.disk) (disk.history new.disk) (λ state same. same-as (disk.history old.disk).now state same) w.went;
            calls = w.calls;
            time = w.time;
            found = tried-reached (metadata_blocks (disk.sectors old.disk)) w.calls (disk.history old.disk).now.seen root f (pass told) (newest told) room w.found;
          };
      same = walked.same;
      cause = finding-cause (disk.faults old.disk) (disk.faults new.disk) f walked.cause;
    })

pub reached-holds : {D T : Type 0} (disk : Ghosts D) (old new : Slots D) (root : RootFields) (value : T) → need_of (blocks_of_root root) ≤ metadata_blocks (disk.sectors old.disk)
    → (disk.tells ≡ true → PassAll (disk.history old.disk).now.seen slot_roots) → (disk.tells ≡ true → root_in (disk.history old.disk).now.seen ≡ root)
    → Walked disk (root_tests root (held_in (disk.history old.disk).now.seen)) old new (Ok value) → Tried disk opened_trials old.disk new.disk None
reached-holds disk old new root value room pass newest walked = record {
  told = λ told.
      let w = walked.told told in
      record {
        went = went-wider (λ before now. now ≡ before) (SameBut 0 0) (disk.history old.disk) (disk.history new.disk) (λ state same. same-as (disk.history old.disk).now state same) w.went;
        calls = w.calls;
        time = w.time;
        found = tried-hold (metadata_blocks (disk.sectors old.disk)) w.calls (disk.history old.disk).now.seen root (pass told) (newest told) room w.found;
      };
  same = walked.same;
  cause = walked.cause;
}

-- the trials of an opened disk, behind those in front
pub tried-behind : {D : Type 0} (disk : Ghosts D) (front : List Trial) (trials : List ℕ → List Trial) (old mid new : D) (refused : Option MetaError)
    → (disk.tells ≡ true → TriedIn (metadata_blocks (disk.sectors old)) front (disk.history old) (disk.history mid) None) → SameDisk disk old mid → disk.faults mid ≡ disk.faults old
    → Tried disk trials mid new refused → Tried disk (λ seen. front ++ trials seen) old new refused
tried-behind disk front trials old mid new refused one same faults two = record {
  told = λ told.
      let first = one told in
      tried-then (metadata_blocks (disk.sectors old)) front (trials (disk.history old).now.seen) (disk.history old) (disk.history mid) (disk.history new) refused first
      (subst (λ (n : ℕ). TriedIn (metadata_blocks n) (trials (disk.history old).now.seen) (disk.history mid) (disk.history new) refused) same.size
      (subst (λ (seen : List ℕ). TriedIn (metadata_blocks (disk.sectors mid)) (trials seen) (disk.history mid) (disk.history new) refused)
      (seen-same (disk.history old).now (disk.history mid).now (went-now (SameBut 0 0) (disk.history old) (disk.history mid) first.went)) (two.told told)));
  same = record { place = two.same.place ∙ same.place; size = two.same.size ∙ same.size };
  cause = subst (λ (n : ℕ). HasOpeningCause n (disk.faults new) refused) faults two.cause;
}
