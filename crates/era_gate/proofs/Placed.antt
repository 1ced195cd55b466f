-- What the steps ask, of a seat whose view has one part and a pass.
use Rattle.std.proofs.Common.{◌≡◌, ℕ, ◌+◌, ◌-◌, ◌*◌, ◌/◌, ◌%◌, ◌^◌, ◌<◌, ◌≤◌, ◌==◌, true, false, None, sym, subst}
use Rattle.std.specs.Prelude.{bit_or}
use mathlib.Core.Option.{none}
use prog.Atomic.{either}
use Rattle.atomic_table.specs.Table.{step, Allows, Splits, Joins}
use Rattle.era_base.specs.declared.ids.CmdId.{CmdId}
use Rattle.era_model.specs.declared.event.Event.{Event}
use Rattle.era_gate.specs.declared.parts.View.{View}
use Rattle.era_gate.specs.declared.plan.Plan.{Plan}
use Rattle.era_gate.specs.Parts.{has_lane, no_pass, pass_view}
use Rattle.era_gate.specs.Rule.{Ruled, bitmap_at}
use Rattle.era_gate.specs.Calls.{has_mark, StripeAsks, KeeperAsks, PassAsks}
use Rattle.era_gate.specs.Plays.{Sat, part_of, keeper_of, IsStripeAt, IsKeeperAt, Enters, Leaves, Draws, KeeperDraws, Looks, Stays, Clears, Exchanges, without_pass, with_pass_of}
use Rattle.era_gate.proofs.Entering.{enter_allows, leave_allows}
use Rattle.era_gate.proofs.Drawing.{draw_allows, keeper_draw_allows}
use Rattle.era_gate.proofs.Bitmaps.{look_allows, set_allows, clear_allows}
use Rattle.era_gate.proofs.Exchanging.{exchange_allows}
use Rattle.era_gate.proofs.Splitting.{splits}
use Rattle.era_gate.proofs.Cuts.{cut_pass}
use Rattle.era_gate.proofs.Joining.{joins, merge_pass}

module _ (plan : Plan) (slots id : ℕ) (me : Sat) where
  pub enter_at : (cmd : CmdId) → IsStripeAt me → (part_of me.0).state.inside ≡ false → has_lane cmd.lane me.0.pass.lanes ≡ true → Allows (Ruled plan) slots id me 0 (λ n. (n + 1) % 2 ^ 64) (Enters cmd (step slots 0 1 0 none) me)
  enter_at cmd is out lane = subst (λ (z : Sat). Allows (Ruled plan) slots id z 0 (λ n. (n + 1) % 2 ^ 64) (Enters cmd (step slots 0 1 0 none) z)) (sym is) (enter_allows plan slots id (part_of me.0) me.0.pass cmd out lane)

  pub leave_at : IsStripeAt me → (part_of me.0).state.inside ≡ true → (part_of me.0).state.flight ≡ None → Allows (Ruled plan) slots id me 0 (λ n. (n + (2 ^ 64 - 1)) % 2 ^ 64) (Leaves (step slots 0 1 0 none) me)
  leave_at is inside idle = subst (λ (z : Sat). Allows (Ruled plan) slots id z 0 (λ n. (n + (2 ^ 64 - 1)) % 2 ^ 64) (Leaves (step slots 0 1 0 none) z)) (sym is) (leave_allows plan slots id (part_of me.0) me.0.pass inside idle)

  pub draw_at : (event : Event) → IsStripeAt me → StripeAsks event (part_of me.0) me.0.pass.lanes → PassAsks event me.0.pass → Allows (Ruled plan) slots id me 1 (λ n. (n + 1) % 2 ^ 64) (Draws event (step slots 1 1 0 none) me)
  draw_at event is asks pass = subst (λ (z : Sat). Allows (Ruled plan) slots id z 1 (λ n. (n + 1) % 2 ^ 64) (Draws event (step slots 1 1 0 none) z)) (sym is) (draw_allows plan slots id (part_of me.0) me.0.pass event asks pass)

  pub keeper_draw_at : (event : Event) → IsKeeperAt me → KeeperAsks event (keeper_of me.0) → PassAsks event me.0.pass → Allows (Ruled plan) slots id me 1 (λ n. (n + 1) % 2 ^ 64) (KeeperDraws event (step slots 1 1 0 none) me)
  keeper_draw_at event is asks pass = subst (λ (z : Sat). Allows (Ruled plan) slots id z 1 (λ n. (n + 1) % 2 ^ 64) (KeeperDraws event (step slots 1 1 0 none) z)) (sym is) (keeper_draw_allows plan slots id (keeper_of me.0) me.0.pass event asks pass)

  pub look_at : (block word : ℕ) → IsStripeAt me → (part_of me.0).state.inside ≡ true → block < plan.blocks → word ≡ bitmap_at plan (part_of me.0).era + block / 64 → Allows (Ruled plan) slots id me word (λ n. n) (Looks block (step slots word 0 0 none) me)
  look_at block word is inside low place = subst (λ (z : Sat). Allows (Ruled plan) slots id z word (λ n. n) (Looks block (step slots word 0 0 none) z)) (sym is) (look_allows plan slots id (part_of me.0) me.0.pass block word inside low place)

  pub set_at : (block word k : ℕ) → IsKeeperAt me → has_mark block (keeper_of me.0).state.era (keeper_of me.0).state.entries ≡ true → block < plan.blocks → word ≡ bitmap_at plan (keeper_of me.0).state.era + block / 64 → k ≡ 1 * 2 ^ (block % 64) % 2 ^ 64 → Allows (Ruled plan) slots id me word (λ n. bit_or n k) (Stays (step slots word k 0 none) me)
  set_at block word k is mark low place mask = subst (λ (z : Sat). Allows (Ruled plan) slots id z word (λ n. bit_or n k) (Stays (step slots word k 0 none) z)) (sym is) (set_allows plan slots id (keeper_of me.0) me.0.pass block word k mark low place mask)

  pub clear_at : (index word : ℕ) → IsKeeperAt me → index ≤ (keeper_of me.0).cleared → index < plan.words → word ≡ bitmap_at plan ((keeper_of me.0).state.era + 1) + index → Allows (Ruled plan) slots id me word (λ n. 0) (λ n. Clears index (step slots word 0 0 none) me 0)
  clear_at index word is so_far low place = subst (λ (z : Sat). Allows (Ruled plan) slots id z word (λ n. 0) (λ n. Clears index (step slots word 0 0 none) z 0)) (sym is) (clear_allows plan slots id (keeper_of me.0) me.0.pass index word so_far low place)

  pub exchange_at : (old new : ℕ) → IsKeeperAt me → (keeper_of me.0).cleared ≡ plan.words → (keeper_of me.0).state.switched ≡ true → (keeper_of me.0).state.era + 1 < 4294967296 → old ≡ (keeper_of me.0).state.era * 4294967296 → new ≡ ((keeper_of me.0).state.era + 1) * 4294967296 → Allows (Ruled plan) slots id me 0 (λ n. either (n == old) new n) (Exchanges (step slots 0 old new none) me)
  exchange_at old new is clear on last old_is new_is = subst (λ (z : Sat). Allows (Ruled plan) slots id z 0 (λ n. either (n == old) new n) (Exchanges (step slots 0 old new none) z)) (sym is) (exchange_allows plan slots id (keeper_of me.0) me.0.pass old new clear on last old_is new_is)

-- a seat without a pass may take one in, and each seat may give its pass off
pub take_in_at : (plan : Plan) (id other : ℕ) (v w : View) → v ≡ without_pass v → w ≡ pass_view w.pass → Joins (Ruled plan) id v other w (with_pass_of v w) (pass_view no_pass)
take_in_at plan id other v w none_ is = subst (λ (z : View). Joins (Ruled plan) id z other w (with_pass_of v w) (pass_view no_pass)) (sym none_)
    (subst (λ (z : View). Joins (Ruled plan) id (without_pass v) other z (with_pass_of v w) (pass_view no_pass)) (sym is) (joins plan id other (without_pass v) (pass_view w.pass) (with_pass_of v w) (merge_pass v.stripes v.keepers w.pass)))

pub give_off_at : (plan : Plan) (id : ℕ) (v : View) → Splits (Ruled plan) id v (without_pass v) (pass_view v.pass)
give_off_at plan id v = splits plan id v (without_pass v) (pass_view v.pass) (cut_pass v)
