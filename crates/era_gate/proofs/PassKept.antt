-- What a pass keeps when it is cut, joined and used.
use Rattle.std.proofs.Common.{◌≡◌, ℕ, zero, suc, ◌+◌, ◌-◌, ◌<◌, ◌≤◌, ◌==◌, ◌&&◌, ◌||◌, max, not, nat_lt, cond, filter, Bool, true, false, List, [], ◌∷◌, ◌++◌, append_assoc, length, slice_index, refl, sym, ap, ◌∙◌, subst, arith}
use Rattle.std.proofs.lemmas.List.{append-nil}
use Rattle.std.proofs.Math.Bool.{or_assoc}
use Rattle.std.proofs.lemmas.Bool.Decides.{nat_tests}
use Rattle.era_base.specs.Flags.{tabulate}
use Rattle.era_base.specs.declared.ids.CmdId.{CmdId}
use Rattle.era_model.specs.declared.entry.Entry.{Entry}
use Rattle.era_model.specs.declared.event.Event.{Event}
use Rattle.era_model.specs.Events.{is_go_of}
use Rattle.era_gate.specs.declared.stays.Receipt.{Receipt}
use Rattle.era_gate.specs.declared.stays.Receipt.TheVariants.{OfEvent, OfStay}
use Rattle.era_gate.specs.declared.stays.Stay.{Stay}
use Rattle.era_gate.specs.declared.parts.LanePart.{LanePart}
use Rattle.era_gate.specs.declared.parts.PassPart.{PassPart}
use Rattle.era_gate.specs.declared.parts.StripePart.{StripePart}
use Rattle.era_gate.specs.Acts.{entry, has_go, lane_of}
use Rattle.era_gate.specs.Parts.{has_lane, most, new_lane, only_at}
use Rattle.era_gate.specs.Rule.{weight}
use Rattle.era_gate.specs.Calls.{PassToken, has_gone, is_mark, leaves, learns, pass_draws, pass_enters, pass_leaves}
use Rattle.era_gate.specs.Passes.{KeepsPass, KnowsBegun, KnowsEnded, HasMarks, AreCutAt, AreJoined, HasSame, no_write, receipts_of, rejoined}
use Rattle.era_gate.proofs.Accounts.{has_mark-behind}
use Rattle.era_gate.proofs.Choices.{clash, most_at, only_here}
use Rattle.era_gate.proofs.Passing.{receives_lanes, receives_gone, event_gone}
use Rattle.era_gate.proofs.PassCuts.{below, above, both_sides, has_below, has_above, lanes_append, same_test}

-- receipts of a lane, and writes issued, of lists one after another
receipts-append : (l : ℕ) (xs ys : List LanePart) → receipts_of l (xs ++ ys) ≡ receipts_of l xs ++ receipts_of l ys
receipts-append l [] ys = refl
receipts-append l (x ∷ xs) ys =
    ap (λ rs. cond (l == x.lane) x.receipts [] ++ rs) (receipts-append l xs ys)
    ∙ sym (append_assoc (cond (l == x.lane) x.receipts []) (receipts_of l xs) (receipts_of l ys))

gone-append : (id : CmdId) (xs ys : List LanePart) → has_gone id (xs ++ ys) ≡ (has_gone id xs || has_gone id ys)
gone-append id [] ys = refl
gone-append id (x ∷ xs) ys = ap (λ b. has_go id x.receipts || b) (gone-append id xs ys) ∙ sym (or_assoc (has_go id x.receipts) (has_gone id xs) (has_gone id ys))

pub lanes_joined : (xs ys : List LanePart) → AreJoined xs ys (xs ++ ys)
lanes_joined xs ys = record { whole = λ l. lanes_append l xs ys; receipts = λ l. receipts-append l xs ys; gone = λ id. gone-append id xs ys }

-- the receipts of a lane stay with it where lanes pass a test by their number
kept_receipts : (test : LanePart → Bool) (l : ℕ) (b : Bool) (xs : List LanePart) → ((p : LanePart) → (l == p.lane) ≡ true → test p ≡ b) → receipts_of l (filter test xs) ≡ cond b (receipts_of l xs) []
kept_receipts test l true [] says = refl
kept_receipts test l false [] says = refl
kept_receipts test l b (x ∷ xs) says = chosen b (test x) (l == x.lane) refl refl (says x) (kept_receipts test l b xs says) where
  chosen : (b t here : Bool) → test x ≡ t → (l == x.lane) ≡ here → ((l == x.lane) ≡ true → test x ≡ b) → receipts_of l (filter test xs) ≡ cond b (receipts_of l xs) []
      → receipts_of l (cond t (x ∷ filter test xs) (filter test xs)) ≡ cond b (cond (l == x.lane) x.receipts [] ++ receipts_of l xs) []
  chosen true true here t h says' rest = ap (λ rs. cond (l == x.lane) x.receipts [] ++ rs) rest
  chosen true false true t h says' rest = absurd (clash (says' h) t)
  chosen true false false t h says' rest = rest ∙ ap (λ c. cond c x.receipts [] ++ receipts_of l xs) (sym h)
  chosen false true true t h says' rest = absurd (clash t (says' h))
  chosen false true false t h says' rest = ap (λ c. cond c x.receipts [] ++ receipts_of l (filter test xs)) h ∙ rest
  chosen false false here t h says' rest = rest

-- flags in another order
turned : (a b c : Bool) → (a || (b || c)) ≡ (b || (a || c))
turned true true c = refl
turned true false c = refl
turned false b c = refl

-- a command's write is among the receipts of one of two sides
gone-sides : (test : LanePart → Bool) (id : CmdId) (xs : List LanePart) → has_gone id xs ≡ (has_gone id (filter test xs) || has_gone id (filter (λ part. not (test part)) xs))
gone-sides test id [] = refl
gone-sides test id (x ∷ xs) = chosen (test x) (gone-sides test id xs) where
  low : List LanePart
  low = filter test xs

  high : List LanePart
  high = filter (λ part. not (test part)) xs

  chosen : (t : Bool) → has_gone id xs ≡ (has_gone id low || has_gone id high)
      → (has_go id x.receipts || has_gone id xs) ≡ (has_gone id (cond t (x ∷ low) low) || has_gone id (cond (not t) (x ∷ high) high))
  chosen true rest = ap (λ b. has_go id x.receipts || b) rest ∙ sym (or_assoc (has_go id x.receipts) (has_gone id low) (has_gone id high))
  chosen false rest = ap (λ b. has_go id x.receipts || b) rest ∙ turned (has_go id x.receipts) (has_gone id low) (has_gone id high)

-- a choice of a flag or no
both_flags : (b h : Bool) → cond b h false ≡ (b && h)
both_flags true h = refl
both_flags false h = refl

-- a choice the other way round
other_way : {A : Type 0} (b : Bool) (x y : A) → cond (not b) x y ≡ cond b y x
other_way true x y = refl
other_way false x y = refl

pub lanes_cut : (first : ℕ) (xs : List LanePart) → AreCutAt first xs (filter (below first) xs) (filter (above first) xs)
lanes_cut first xs = record {
  whole = λ l. both_sides first l xs;
  below = λ l. has_below first l xs ∙ both_flags (nat_lt l first) (has_lane l xs);
  above = λ l. has_above first l xs ∙ both_flags (not (nat_lt l first)) (has_lane l xs);
  receipts_below = λ l. kept_receipts (below first) l (nat_lt l first) xs (same_test first l);
  receipts_above = λ l. kept_receipts (above first) l (not (nat_lt l first)) xs (λ p is. ap not (same_test first l p is)) ∙ other_way (nat_lt l first) (receipts_of l xs) [];
  gone = λ id. gone-sides (below first) id xs;
}

-- the greater of a number and itself
most_same : (xs : List ℕ) → most xs xs ≡ xs
most_same [] = refl
most_same (x ∷ xs) = let top : max x x ≡ x = omega arith in rw (top, most_same xs) refl

-- what was cut and joined again
pub cut_joined : (pass : PassPart) (first budget : ℕ) → budget ≤ pass.budget → HasSame (rejoined pass first budget) pass
cut_joined pass first budget low =
    let xs : List LanePart = pass.lanes in
    let cut = lanes_cut first xs in
    let joined = lanes_joined (filter (below first) xs) (filter (above first) xs) in
    record {
      lanes = λ l. joined.whole l ∙ sym (cut.whole l);
      receipts = λ l. joined.receipts l ∙ (rw (cut.receipts_below l, cut.receipts_above l) (sides (nat_lt l first) (receipts_of l xs)));
      gone = λ id. joined.gone id ∙ sym (cut.gone id);
      begun = most_same pass.begun;
      ended = most_same pass.ended;
      floor = omega arith;
      budget = omega arith;
    } where
      sides : (b : Bool) (rs : List Receipt) → cond b rs [] ++ cond b [] rs ≡ rs
      sides true rs = append-nil rs
      sides false rs = refl

-- more is known at each index
most_more : (xs ys : List ℕ) (d : ℕ) → slice_index xs d ≤ slice_index (most xs ys) d
most_more xs ys d = omega (arith, most_at xs ys d)

-- what was learned at a stripe is known
most_learned : (xs : List ℕ) (d n : ℕ) → n ≤ slice_index (most xs (only_at d n)) d
most_learned xs d n = omega (arith, most_at xs (only_at d n) d, only_here d n)

pub learned_begun : (part : StripePart) (pass : PassPart) → KnowsBegun part (learns pass part)
learned_begun part pass = most_learned pass.begun part.stripe (length part.state.stays)

pub learned_ended : (part : StripePart) (pass : PassPart) → KnowsEnded part (learns pass part)
learned_ended part pass =
    let known = most_learned pass.ended part.stripe (length part.state.stays - weight part.state.inside) in
    omega arith

-- what is so of two things is so of what they equal
pub of_both : {A B : Type 0} (P : A → B → Type 0) (a a' : A) (b b' : B) → a' ≡ a → b' ≡ b → P a b → P a' b'
of_both P a a' b b' one two holds_ = subst (λ x. P x b') (sym one) (subst (P a) (sym two) holds_)

pub left_ended : (part : StripePart) (pass : PassPart) → KnowsEnded (leaves part) (pass_leaves pass part)
left_ended part pass =
    let known = most_learned pass.ended part.stripe (length part.state.stays) in
    omega arith

-- a pass after a step with it
pub enter_keeps : (old : PassToken) (stay : Stay) → KeepsPass 0 no_write old (record { table = old.table; part = pass_enters old.part stay })
enter_keeps old stay = record {
  table = refl;
  lanes = λ l. receives_lanes l stay.id.lane (OfStay stay) old.part.lanes;
  gone = λ id other. receives_gone id stay.id.lane (OfStay stay) old.part.lanes refl;
  budget = omega arith;
  floor = omega arith;
  begun = λ d. most_more old.part.begun (only_at stay.stripe (stay.number + 1)) d;
  ended = λ d. omega arith;
}

pub draw_keeps : (old : PassToken) (event : Event) (place : ℕ) → old.part.floor ≤ place → 0 < old.part.budget → KeepsPass 1 (λ id. is_go_of id event) old (record { table = old.table; part = pass_draws old.part event place })
draw_keeps old event place low some_ = record {
  table = refl;
  lanes = λ l. receives_lanes l (lane_of event) (OfEvent (entry place event)) old.part.lanes;
  gone = λ id other. receives_gone id (lane_of event) (OfEvent (entry place event)) old.part.lanes (event_gone id (entry place event) other);
  budget = omega arith;
  floor = omega arith;
  begun = λ d. omega arith;
  ended = λ d. omega arith;
}

pub leave_keeps : (old : PassToken) (part : StripePart) → KeepsPass 0 no_write old (record { table = old.table; part = pass_leaves old.part part })
leave_keeps old part = record {
  table = refl;
  lanes = λ l. refl;
  gone = λ id other. refl;
  budget = omega arith;
  floor = omega arith;
  begun = λ d. omega arith;
  ended = λ d. most_more old.part.ended (only_at part.stripe (length part.state.stays)) d;
}

pub learn_keeps : (old : PassToken) (part : StripePart) → KeepsPass 0 no_write old (record { table = old.table; part = learns old.part part })
learn_keeps old part = record {
  table = refl;
  lanes = λ l. refl;
  gone = λ id other. refl;
  budget = omega arith;
  floor = omega arith;
  begun = λ d. most_more old.part.begun (only_at part.stripe (length part.state.stays)) d;
  ended = λ d. most_more old.part.ended (only_at part.stripe (length part.state.stays - weight part.state.inside)) d;
}

-- a pass that was kept twice
pub kept_twice : (m n : ℕ) (f g : CmdId → Bool) (a b c : PassToken) → KeepsPass m f a b → KeepsPass n g b c → KeepsPass (m + n) (λ id. f id || g id) a c
kept_twice m n f g a b c first then_ = record {
  table = then_.table ∙ first.table;
  lanes = λ l. then_.lanes l ∙ first.lanes l;
  gone = λ id none_. let both = neither (f id) (g id) none_ in then_.gone id both.1 ∙ first.gone id both.0;
  budget = let one = first.budget in let two = then_.budget in omega arith;
  floor = let one = first.floor in let two = then_.floor in omega arith;
  begun = λ d. let one = first.begun d in let two = then_.begun d in omega arith;
  ended = λ d. let one = first.ended d in let two = then_.ended d in omega arith;
} where
  neither : (p q : Bool) → (p || q) ≡ false → (p ≡ false) × (q ≡ false)
  neither true q none_ = absurd (clash refl none_)
  neither false q none_ = (refl, none_)

-- new lanes from a number on are above it, and those before it are below
new_above : (first i n : ℕ) → first ≤ i → (filter (below first) (tabulate i n new_lane) ≡ []) × (filter (above first) (tabulate i n new_lane) ≡ tabulate i n new_lane)
new_above first i zero low = (refl, refl)
new_above first i (suc n) low =
    let off : nat_lt i first ≡ false = grind (arith, nat_tests) in
    let rest = new_above first (i + 1) n (omega arith) in
    (rw off rest.0, rw off (ap (λ parts. new_lane i ∷ parts) rest.1))

pub new_cut : (first i few more : ℕ) → first ≡ i + few → (filter (below first) (tabulate i (few + more) new_lane) ≡ tabulate i few new_lane) × (filter (above first) (tabulate i (few + more) new_lane) ≡ tabulate first more new_lane)
new_cut first i zero more is =
    let all = new_above first i more (omega arith) in
    let n : 0 + more ≡ more = omega arith in
    let at : i ≡ first = omega arith in
    rw n (all.0, all.1 ∙ ap (λ k. tabulate k more new_lane) at)
new_cut first i (suc few) more is =
    let on : nat_lt i first ≡ true = grind (arith, nat_tests) in
    let n : suc few + more ≡ suc (few + more) = omega arith in
    let rest = new_cut first (i + 1) few more (omega arith) in
    rw (n, on) (ap (λ parts. new_lane i ∷ parts) rest.0, rest.1)

-- the marks after the keeper drew
pub marks_drawn : (event : Event) (old : List Entry) (place : ℕ) → HasMarks event old (old ++ entry place event ∷ [])
marks_drawn event old place = record {
  all = λ block era. has_mark-behind block era old (entry place event);
  drawn = λ block era is. has_mark-behind block era old (entry place event) ∙ rw is refl;
  kept = λ block era is. has_mark-behind block era old (entry place event) ∙ (rw is (second (is_mark block era event)));
} where
  second : (b : Bool) → (b || true) ≡ true
  second true = refl
  second false = refl
