-- A sync and a read behind it: they change nothing.
use Rattle.std.proofs.Common.{◌≡◌, ◌∙◌, ℕ, refl, sym, subst}
use Rattle.era_base.specs.CrashModel.{State, History, Stepped, Synced, SameBut, IsWhole, Went}
use Rattle.era_base.proofs.CallsSince.{sync-leaves}
use Rattle.era_base.proofs.Moments.{went-step, went-join}

same-none : (state : State) → SameBut 0 0 state state
same-none state = record { bytes = refl; flags = refl; seen = λ offset out. refl; clean = λ offset out was. was }

same-synced : (sectors : ℕ) (before after : State) → IsWhole sectors before → Synced before after → SameBut 0 0 before after
same-synced sectors before after whole synced =
    let leaves = sync-leaves sectors before after whole synced in
    record { bytes = leaves.bytes; flags = leaves.flags; seen = λ offset out. leaves.seen offset tt; clean = λ offset out was. leaves.clean offset tt was }

-- a read alone
pub went-read : (old new : History) → Stepped old new → new.now ≡ old.now → Went (SameBut 0 0) old new
went-read old new step same = went-step (SameBut 0 0) old new step (same-none old.now) (subst (SameBut 0 0 old.now) (sym same) (same-none old.now))

-- a sync, and a read behind it
pub went-sync_read : (sectors : ℕ) (old mid new : History) → IsWhole sectors old.now → Stepped old mid → Synced old.now mid.now → Stepped mid new → new.now ≡ mid.now → Went (SameBut 0 0) old new
went-sync_read sectors old mid new whole step synced later same =
    let before = same-synced sectors old.now mid.now whole synced in
    went-join (SameBut 0 0) (SameBut 0 0) (SameBut 0 0) old mid new
    (went-step (SameBut 0 0) old mid step (same-none old.now) before) (went-read mid new later same)
    (λ state one. one)
    (λ state one two. record {
      bytes = two.bytes ∙ one.bytes;
      flags = two.flags ∙ one.flags;
      seen = λ offset out. two.seen offset out ∙ one.seen offset out;
      clean = λ offset out was. two.clean offset out (one.clean offset out was);
    })
