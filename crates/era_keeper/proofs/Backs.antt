-- Which meanings a crash may bring back behind a commit, and what its images stand for at each moment.
use Rattle.std.proofs.Common.{◌≡◌, ◌⊎◌, Bool, List, Option, refl, ◌∙◌, inl, inr}
use Rattle.era_base.specs.CrashModel.{State, History, Continues, AllBetween, Went, clock}
use Rattle.era_meta.specs.declared.metadata.Meta.{Meta}
use Rattle.era_meta.specs.InMemory.{HasStored, LeavesMeanings, MayComeBack, StillStores, meaning_in}
use Rattle.era_meta.specs.Keeping.{MayLeave}
use Rattle.era_meta.specs.Meaning.{Meaning}
use Rattle.era_meta.specs.SnapshotCalls.{HasHeld, StillHolds}
use Rattle.era_meta.specs.HeldCalls.{with_snapshot}
use Rattle.era_meta.specs.StoredMarks.{with_marks}
use Rattle.era_model.specs.declared.history.Happening.{Happening}
use Rattle.era_model.specs.Marks.{BlockMarks}
use Rattle.era_model.specs.Recovered.{IsRecoveredFrom}
use Rattle.era_keeper.specs.Recovery.{LeavesRecovered}

-- marks and a snapshot in one
abbrev pub meant : BlockMarks → Option BlockMarks → Meaning
meant m found = record { marks = m; held = found }

-- the meaning may be recovered by a history
abbrev pub Recovers : List Happening → Meaning → Type 0
Recovers h meaning = IsRecoveredFrom h meaning.marks meaning.held

-- behind a commit that answered Ok only what was stored comes back
pub back-stored : {D : Type 0} (old new : Meta D) (marks : BlockMarks) (before now : State) (meaning : Meaning) → HasStored old marks new before now
    → MayComeBack new meaning now → meaning ≡ with_marks (meaning_in before old) marks
back-stored old new marks before now meaning stored back = elim back [
  | inl is ↦ is ∙ stored.says
  | inr left ↦ absurd (stored.alone left.0 meaning left.1)
]

pub back-held : {D : Type 0} (old new : Meta D) (taken : Bool) (before now : State) (meaning : Meaning) → HasHeld old taken new before now
    → MayComeBack new meaning now → meaning ≡ with_snapshot taken (meaning_in before old)
back-held old new taken before now meaning stored back = elim back [
  | inl is ↦ is ∙ stored.says
  | inr left ↦ absurd (stored.alone left.0 meaning left.1)
]

-- behind one that failed, what came back before, or what it was storing
pub back-still : {D : Type 0} (old new : Meta D) (marks : BlockMarks) (before now : State) (meaning : Meaning) → StillStores old marks new before now
    → MayComeBack new meaning now → MayComeBack old meaning before ⊎ (meaning ≡ with_marks (meaning_in before old) marks)
back-still old new marks before now meaning still back = elim back [
  | inl is ↦ inl (inl (is ∙ still.says))
  | inr left ↦ elim (still.left left.0 meaning left.1) [ inl next ↦ inr next | inr was ↦ inl (inr was) ]
]

pub back-still-held : {D : Type 0} (old new : Meta D) (taken : Bool) (before now : State) (meaning : Meaning) → StillHolds old taken new before now
    → MayComeBack new meaning now → MayComeBack old meaning before ⊎ (meaning ≡ with_snapshot taken (meaning_in before old))
back-still-held old new taken before now meaning still back = elim back [
  | inl is ↦ inl (inl (is ∙ still.says))
  | inr left ↦ elim (still.left left.0 meaning left.1) [ inl next ↦ inr next | inr was ↦ inl (inr was) ]
]

-- at each moment of a commit each image may be recovered, where what came back before may, and the new meaning
leave-recovered : {D : Type 0} (meta : Meta D) (next : Meaning) (h : List Happening) (before now : State) → ((meaning : Meaning) → MayComeBack meta meaning before → Recovers h meaning) → Recovers h next
    → MayLeave meta.slots.target meta.slots.number meta.slots.may_be_open (meaning_in before meta) next before now → LeavesRecovered h now
leave-recovered meta next h before now back new leaves image is = elim (leaves image is) [
  | inl either ↦ elim either [
    | inl old ↦ (meaning_in before meta, old, back (meaning_in before meta) (inl refl))
    | inr stands ↦ (next, stands, new)
  ]
  | inr left ↦ (left.1.0, left.1.2, back left.1.0 (inr (left.0, left.1.1)))
]

-- the moments of a commit, by a history
abbrev pub Moments : List Happening → History → History → Type 0
Moments h old new = Continues old new × AllBetween new (clock old) (clock new) (LeavesRecovered h)

pub went-recovered : {D : Type 0} (meta : Meta D) (next : State → Meaning) (h : List Happening) (old new : History) → ((meaning : Meaning) → MayComeBack meta meaning old.now → Recovers h meaning) → Recovers h (next old.now)
    → Went (λ before now. MayLeave meta.slots.target meta.slots.number meta.slots.may_be_open (meaning_in before meta) (next before) before now) old new → Moments h old new
went-recovered meta next h old new back recovered went =
    (went.continues, λ moment first last. leave-recovered meta (next old.now) h old.now _ back recovered (went.moments moment first last))

-- the present images may be recovered, where all that comes back may
pub now-recovered : {D : Type 0} (meta : Meta D) (h : List Happening) (now : State) → ((meaning : Meaning) → MayComeBack meta meaning now → Recovers h meaning) → LeavesMeanings meta now → LeavesRecovered h now
now-recovered meta h now back leaves image is = let found = leaves image is in (found.0, found.2, back found.0 found.1)
