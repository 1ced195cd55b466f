-- Trials of an opening that begins an era, one behind the other.
use Rattle.std.proofs.Common.{◌≡◌, ◌⊎◌, ℕ, ◌+◌, ◌-◌, ◌<◌, ◌≤◌, true, List, ◌++◌, Option, Some, None, refl, ap, ◌∙◌, subst, arith, inl, inr}
use Rattle.std.specs.Prelude.{MatchOption}
use Rattle.era_base.specs.Calls.{SameDisk}
use Rattle.era_base.specs.CrashModel.{History, Went, SameBut, clock}
use Rattle.era_base.specs.Geometry.{blocks_of, need_of}
use Rattle.era_base.specs.declared.geometry.Geometry.{Geometry}
use Rattle.era_base.specs.declared.disk.Disk.{Ghosts}
use Rattle.era_base.proofs.Moments.{went-none, went-now, went-join}
use Rattle.era_meta.specs.declared.refusal.MetaError.{MetaError}
use Rattle.era_meta.specs.declared.refusal.MetaError.TheVariants.{MetaSmall}
use Rattle.era_meta.specs.Openings.{TriedIn, Tried, HasErrorCause, HasOpeningCause}
use Rattle.era_meta.specs.Starting.{HoldsBefore, IsFault, Started, StartedIn}
use Rattle.era_meta.specs.Trials.{Trial, Holds, HoldAll, EndsOpening, all_calls, metadata_blocks, start_trials}
use Rattle.era_meta.proofs.Agree.{all_both}
use Rattle.era_meta.proofs.Looks.{seen-same, same-still, same-then}
use Rattle.era_meta.proofs.Refusals.{ends-front, ends-back, calls-both}

holds-then : (have : ℕ) (seen : List ℕ) (xs ys : List Trial) (calls all : ℕ) → HoldAll have seen xs → all ≡ all_calls xs + calls → HoldsBefore have seen ys calls
    → HoldsBefore have seen (xs ++ ys) all
holds-then have seen xs ys calls all hold is holds =
    let sum = calls-both xs ys in
    let own = holds.1 in
    (all_both (Holds have seen) xs ys hold holds.0, omega arith)

-- trials that were refused end more
pub started-stop : (have : ℕ) (xs ys : List Trial) (old new : History) (error : MetaError) → TriedIn have xs old new (Some error) → StartedIn have (xs ++ ys) old new (Some error)
started-stop have xs ys old new error tried = record {
  calls = tried.calls;
  time = tried.time;
  found = inl (ends-front have old.now.seen xs ys tried.calls error tried.found, tried.went);
}

abbrev IsStartFound : ℕ → List ℕ → List Trial → ℕ → Type 0 → Option MetaError → Type 0
IsStartFound have seen trials calls Quiet refused =
    MatchOption refused (HoldsBefore have seen trials calls) (λ error. (EndsOpening have seen trials calls error × Quiet) ⊎ (IsFault error × HoldsBefore have seen trials calls))

start-found : (have : ℕ) (seen : List ℕ) (xs ys : List Trial) (calls all : ℕ) (Own Both : Type 0) (refused : Option MetaError) → HoldAll have seen xs → all ≡ all_calls xs + calls
    → (Own → Both) → IsStartFound have seen ys calls Own refused → IsStartFound have seen (xs ++ ys) all Both refused
start-found have seen xs ys calls all Own Both None hold is wider found = holds-then have seen xs ys calls all hold is found
start-found have seen xs ys calls all Own Both (Some error) hold is wider (inl ends) = inl (ends-back have seen xs ys calls all error hold is ends.0, wider ends.1)
start-found have seen xs ys calls all Own Both (Some error) hold is wider (inr fault) = inr (fault.0, holds-then have seen xs ys calls all hold is fault.1)

pub started-then : (have : ℕ) (xs ys : List Trial) (old mid new : History) (refused : Option MetaError) → TriedIn have xs old mid None → StartedIn have ys mid new refused
    → StartedIn have (xs ++ ys) old new refused
started-then have xs ys old mid new refused one two =
    let first = one.time in
    let second = two.time in
    let own = one.found.1 in
    record {
      calls = one.calls + two.calls;
      time = omega arith;
      found = start-found have old.now.seen xs ys two.calls (one.calls + two.calls) (Went (SameBut 0 0) mid new) (Went (SameBut 0 0) old new) refused one.found.0 (omega arith)
          (λ went. went-join (SameBut 0 0) (SameBut 0 0) (SameBut 0 0) old mid new one.went went (λ state is. is) (λ state is is'. same-then old.now mid.now state is is'))
          (subst (λ (seen : List ℕ). IsStartFound have seen ys two.calls (Went (SameBut 0 0) mid new) refused)
          (seen-same old.now mid.now (went-now (SameBut 0 0) old mid one.went)) two.found);
    }

-- the trials of a disk, behind those in front
pub started-behind : {D : Type 0} (disk : Ghosts D) (front : List Trial) (trials : List ℕ → List Trial) (old mid new : D) (refused : Option MetaError)
    → (disk.tells ≡ true → TriedIn (metadata_blocks (disk.sectors old)) front (disk.history old) (disk.history mid) None) → SameDisk disk old mid → disk.faults mid ≡ disk.faults old
    → Started disk trials mid new refused → Started disk (λ seen. front ++ trials seen) old new refused
started-behind disk front trials old mid new refused one same faults two = record {
  told = λ told.
      let first = one told in
      started-then (metadata_blocks (disk.sectors old)) front (trials (disk.history old).now.seen) (disk.history old) (disk.history mid) (disk.history new) refused first
      (subst (λ (n : ℕ). StartedIn (metadata_blocks n) (trials (disk.history old).now.seen) (disk.history mid) (disk.history new) refused) same.size
      (subst (λ (seen : List ℕ). StartedIn (metadata_blocks (disk.sectors mid)) (trials seen) (disk.history mid) (disk.history new) refused)
      (seen-same (disk.history old).now (disk.history mid).now (went-now (SameBut 0 0) (disk.history old) (disk.history mid) first.went)) (two.told told)));
  same = record { place = two.same.place ∙ same.place; size = two.same.size ∙ same.size };
  cause = subst (λ (n : ℕ). HasOpeningCause n (disk.faults new) refused) faults two.cause;
}

-- trials that depend on what is read, and more behind them
pub started-read : {D : Type 0} (disk : Ghosts D) (front back : List ℕ → List Trial) (old mid new : D) (refused : Option MetaError)
    → Tried disk front old mid None → Started disk back mid new refused → Started disk (λ seen. front seen ++ back seen) old new refused
started-read disk front back old mid new refused one two = record {
  told = λ told.
      let first = one.told told in
      started-then (metadata_blocks (disk.sectors old)) (front (disk.history old).now.seen) (back (disk.history old).now.seen) (disk.history old) (disk.history mid) (disk.history new) refused first
      (subst (λ (n : ℕ). StartedIn (metadata_blocks n) (back (disk.history old).now.seen) (disk.history mid) (disk.history new) refused) one.same.size
      (subst (λ (seen : List ℕ). StartedIn (metadata_blocks (disk.sectors mid)) (back seen) (disk.history mid) (disk.history new) refused)
      (seen-same (disk.history old).now (disk.history mid).now (went-now (SameBut 0 0) (disk.history old) (disk.history mid) first.went)) (two.told told)));
  same = record { place = two.same.place ∙ one.same.place; size = two.same.size ∙ one.same.size };
  cause = subst (λ (n : ℕ). HasOpeningCause n (disk.faults new) refused) one.cause two.cause;
}

pub started-ends : {D : Type 0} (disk : Ghosts D) (front back : List ℕ → List Trial) (old new : D) (error : MetaError)
    → Tried disk front old new (Some error) → Started disk (λ seen. front seen ++ back seen) old new (Some error)
started-ends disk front back old new error tried = record {
  told = λ told. started-stop (metadata_blocks (disk.sectors old)) (front (disk.history old).now.seen) (back (disk.history old).now.seen) (disk.history old) (disk.history new) error (tried.told told);
  same = tried.same;
  cause = tried.cause;
}

-- no call was made
pub started-still : {D : Type 0} (disk : Ghosts D) (trials : List ℕ → List Trial) (at : D) (error : MetaError)
    → (disk.tells ≡ true → EndsOpening (metadata_blocks (disk.sectors at)) (disk.history at).now.seen (trials (disk.history at).now.seen) 0 error)
    → HasErrorCause (disk.faults at) (disk.faults at) error → Started disk trials at at (Some error)
started-still disk trials at error ends cause = record {
  told = λ told. record {
    calls = 0;
    time = omega arith;
    found = inl (ends told, went-none (SameBut 0 0) (disk.history at) (same-still (disk.history at).now));
  };
  same = record { place = refl; size = refl };
  cause = cause;
}

abbrev pub IsNoneOrFault : Option MetaError → Type 0
IsNoneOrFault refused = MatchOption refused (Unit {0}) IsFault

committed : (have : ℕ) (seen : List ℕ) (trials : List Trial) (calls : ℕ) (Quiet : Type 0) (refused : Option MetaError) → IsNoneOrFault refused → HoldsBefore have seen trials calls
    → IsStartFound have seen trials calls Quiet refused
committed have seen trials calls Quiet None is holds = holds
committed have seen trials calls Quiet (Some error) is holds = inr (is, holds)

-- all trials without calls hold, and a commit was tried
pub started-commits : {D : Type 0} (disk : Ghosts D) (trials : List ℕ → List Trial) (old new : D) (refused : Option MetaError) → IsNoneOrFault refused
    → (disk.tells ≡ true → HoldAll (metadata_blocks (disk.sectors old)) (disk.history old).now.seen (trials (disk.history old).now.seen) × (all_calls (trials (disk.history old).now.seen) ≡ 0))
    → (disk.tells ≡ true → clock (disk.history old) ≤ clock (disk.history new)) → SameDisk disk old new → HasOpeningCause (disk.faults old) (disk.faults new) refused
    → Started disk trials old new refused
started-commits disk trials old new refused is hold later same cause = record {
  told = λ told.
      let order = later told in
      let none = (hold told).1 in
      record {
        calls = clock (disk.history new) - clock (disk.history old);
        time = omega arith;
        found = committed (metadata_blocks (disk.sectors old)) (disk.history old).now.seen (trials (disk.history old).now.seen) (clock (disk.history new) - clock (disk.history old))
            (Went (SameBut 0 0) (disk.history old) (disk.history new)) refused is ((hold told).0, omega arith);
      };
  same = same;
  cause = cause;
}

-- the same trials, said otherwise
pub started-as : {D : Type 0} (disk : Ghosts D) (xs ys : List ℕ → List Trial) (old new : D) (refused : Option MetaError)
    → (disk.tells ≡ true → xs (disk.history old).now.seen ≡ ys (disk.history old).now.seen) → Started disk xs old new refused → Started disk ys old new refused
started-as disk xs ys old new refused same started = record {
  told = λ told. subst (λ (trials : List Trial). StartedIn (metadata_blocks (disk.sectors old)) trials (disk.history old) (disk.history new) refused) (same told) (started.told told);
  same = started.same;
  cause = started.cause;
}

-- what was tried and refused was not begun
pub started-tried : {D : Type 0} (disk : Ghosts D) (trials : List ℕ → List Trial) (old new : D) (error : MetaError) → Tried disk trials old new (Some error)
    → Started disk trials old new (Some error)
started-tried disk trials old new error tried = record {
  told = λ told. let t = tried.told told in record { calls = t.calls; time = t.time; found = inl (t.found, t.went) };
  same = tried.same;
  cause = tried.cause;
}

pub start-small : {D : Type 0} (disk : Ghosts D) (at : D) (asked : Geometry) (have need : ℕ) → have ≡ metadata_blocks (disk.sectors at)
    → need ≡ need_of (blocks_of asked.sectors asked.block_sectors) → have < need → Started disk (start_trials asked) at at (Some (MetaSmall have need))
start-small disk at asked have need is needs small =
    started-still disk (start_trials asked) at (MetaSmall have need)
    (λ told. inl (
      subst (λ (n : ℕ). n < need_of (blocks_of asked.sectors asked.block_sectors)) is (subst (λ (n : ℕ). have < n) needs small),
      ap (λ (n : ℕ). MetaSmall n need) is ∙ ap (λ (n : ℕ). MetaSmall (metadata_blocks (disk.sectors at)) n) needs,
    )) refl
