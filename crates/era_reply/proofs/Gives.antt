-- What is gathered and given of a text: parts one behind the other, and runs.
use Rattle.std.proofs.Common.{◌≡◌, ℕ, ◌+◌, ◌<◌, List, ◌++◌, length, get_or, drop, ◌≤◌, ap, sym, ◌∙◌, subst, append_assoc}
use Rattle.std.specs.Prelude.{Option, Result, Ok, Err, codes}
use Rattle.std.proofs.lemmas.List.{drop_more, drop_all, append-nil}
use Rattle.era_base.specs.Streams.{GivesFront}
use Rattle.era_line.specs.declared.text_buffer.TextBuffer.{TextBuffer}
use Rattle.era_line.specs.TextBuffer.{Adds}
use Rattle.era_line.proofs.Gathering.{front-longer}
use Rattle.era_line.proofs.PartSteps.{HasAdded, HasCut, added-then}
use Rattle.era_model.specs.Transcript.{more_runs_text, run_text}

-- a text whose first part was cut
pub cut-first : (given given' : Option (List ℕ)) (buffer : TextBuffer) (first rest : List ℕ) → HasCut given buffer given' first → HasCut given buffer given' (first ++ rest)
cut-first given given' buffer first rest cut = λ before text is.
    subst (λ all. GivesFront before all given') (append_assoc text first rest) (front-longer before (text ++ first) rest given' (cut before text is))

-- a text behind another one
pub adds-then : {T E : Type 0} (given given' given'' : Option (List ℕ)) (buffer buffer' buffer'' : TextBuffer) (first rest : List ℕ) (result : Result T E)
    → HasAdded given buffer given' buffer' first → Adds given' buffer' given'' buffer'' rest result → Adds given buffer given'' buffer'' (first ++ rest) result
adds-then given given' given'' buffer buffer' buffer'' first rest (Ok value) one adds = added-then given given' given'' buffer buffer' buffer'' first rest one adds
adds-then given given' given'' buffer buffer' buffer'' first rest (Err error) one adds = λ before text is.
    subst (λ all. GivesFront before all given'') (append_assoc text first rest) (adds before (text ++ first) (one before text is))

-- runs of which some were added, and with those that are left they are all
abbrev pub RunsStand : List (ℕ × ℕ) → ℕ → (List ℕ → Type 0) → Type 0
RunsStand runs i IsAdded = (done : List ℕ) × (more_runs_text runs ≡ done ++ more_runs_text (drop i runs)) × IsAdded done

-- the runs from an index on: the one there, and the rest
pub more_runs-next : (runs : List (ℕ × ℕ)) (i : ℕ) (d : ℕ × ℕ) → i < length runs
    → more_runs_text (drop i runs) ≡ (codes "," ++ run_text (get_or runs i d)) ++ more_runs_text (drop (i + 1) runs)
more_runs-next runs i d here = ap more_runs_text (drop_more runs i d here)

-- one run more was added
pub runs_stand-next : (runs : List (ℕ × ℕ)) (i : ℕ) (d : ℕ × ℕ) (first old new : Option (List ℕ)) (first' old' new' : TextBuffer) → i < length runs
    → RunsStand runs i (HasAdded first first' old old') → HasAdded old old' new new' (codes "," ++ run_text (get_or runs i d))
    → RunsStand runs (i + 1) (HasAdded first first' new new')
runs_stand-next runs i d first old new first' old' new' here stand adds =
    let more = codes "," ++ run_text (get_or runs i d) in (
      stand.0 ++ more,
      stand.1 ∙ ap (λ bytes. stand.0 ++ bytes) (more_runs-next runs i d here) ∙ sym (append_assoc stand.0 more _),
      added-then first old new first' old' new' stand.0 more stand.2 adds,
    )

-- all runs were added once none is left
pub runs_stand-end : (runs : List (ℕ × ℕ)) (i : ℕ) (IsAdded : List ℕ → Type 0) → length runs ≤ i → RunsStand runs i IsAdded → IsAdded (more_runs_text runs)
runs_stand-end runs i IsAdded past stand =
    subst IsAdded (sym (stand.1 ∙ ap (λ rest. stand.0 ++ more_runs_text rest) (drop_all i runs past) ∙ append-nil stand.0)) stand.2
