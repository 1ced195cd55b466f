-- What was given of a session's text, piece by piece: the first line, the replies, the last lines.
use Rattle.std.proofs.Common.{◌≡◌, ◌⊎◌, ℕ, List, [], ◌∷◌, ◌++◌, refl, ap, sym, ◌∙◌, subst, append_assoc, inl, inr}
use Rattle.std.specs.Prelude.{Option, Some, take}
use Rattle.era_base.specs.Streams.{GivesFront}
use Rattle.era_run.specs.Endings.{PrintsEndingBy, status_of}
use Rattle.era_run.proofs.Texts.{front-longer, front-within, joined-more, served-more}
use Rattle.era_serve.specs.Stops.{Around, GivesReplies}
use Rattle.era_serve.specs.declared.stop.Stop.{Stop}
use Rattle.era_serve.specs.declared.stop.Stop.TheVariants.{Read, Line, Source, Memory, Sink}
use Rattle.era_serve.specs.declared.stop.Stopped.{Stopped}
use Rattle.era_served.specs.Served.{Served, joined, served_text}
use Rattle.era_tools.specs.Printing.{Prints}
use Rattle.era_tools.specs.declared.status.Status.{Status}
use Rattle.era_tools.specs.declared.status.Status.TheVariants as status

-- The replies of rounds.
abbrev pub replies_of : List (List Served) → List ℕ
replies_of rounds = served_text (joined rounds)

-- The replies of all rounds but the last one were given, behind a first piece.
pub record Reaches (first : List ℕ) (rounds : List (List Served)) (before : List ℕ) (given' : Option (List ℕ)) : Type 0 where
  pub earlier : List (List Served)
  pub last : List Served
  pub split : rounds ≡ earlier ++ last ∷ []
  pub more : List ℕ
  pub given : given' ≡ Some (before ++ ((first ++ replies_of earlier) ++ more))

-- A front of the three pieces was given.
pub record FrontOf (first : List ℕ) (rounds : List (List Served)) (ending before : List ℕ) (given' : Option (List ℕ)) : Type 0 where
  pub front : GivesFront before (first ++ (replies_of rounds ++ ending)) given'
  pub reached : (rounds ≡ []) ⊎ Reaches first rounds before given'

-- All three were given, or the sink failed.
abbrev pub PrintsPieces : Option (List ℕ) → Option (List ℕ) → List ℕ → List (List Served) → List ℕ → Status → Status → Type 0
PrintsPieces given given' first rounds ending ended result =
    ((result ≡ ended) × ((before : List ℕ) → given ≡ Some before → given' ≡ Some (before ++ (first ++ (replies_of rounds ++ ending)))))
    ⊎ ((result ≡ status.Sink) × ((before : List ℕ) → given ≡ Some before → FrontOf first rounds ending before given'))

-- a list is empty or has a last element
last-of : (rounds : List (List Served)) → (rounds ≡ []) ⊎ ((earlier : List (List Served)) × (last : List Served) × (rounds ≡ earlier ++ last ∷ []))
last-of [] = inl refl
last-of (round ∷ rounds) = inr (elim (last-of rounds) [
  | inl none ↦ ([], round, ap (λ (rest : List (List Served)). round ∷ rest) none)
  | inr (earlier, last, is) ↦ (round ∷ earlier, last, ap (λ (rest : List (List Served)). round ∷ rest) is)
])

-- the replies of rounds with a last one
replies-split : (rounds earlier : List (List Served)) (last : List Served) → rounds ≡ earlier ++ last ∷ [] → replies_of rounds ≡ replies_of earlier ++ served_text last
replies-split rounds earlier last is =
    ap replies_of is
    ∙ ap served_text (joined-more earlier (last ∷ []))
    ∙ served-more (joined earlier) (last ++ [])
    ∙ ap (λ (text : List ℕ). replies_of earlier ++ text) (served-more last [] ∙ nothing (served_text last))
  where
    nothing : (text : List ℕ) → text ++ [] ≡ text
    nothing [] = refl
    nothing (byte ∷ text) = ap (λ (rest : List ℕ). byte ∷ rest) (nothing text)

-- the last lines failed behind all replies
ending-failed : (first ending before : List ℕ) (rounds : List (List Served)) (given' : Option (List ℕ))
    → GivesFront ((before ++ first) ++ replies_of rounds) ending given' → FrontOf first rounds ending before given'
ending-failed first ending before rounds given' front = record {
  front = subst (λ (text : List ℕ). GivesFront before text given') (append_assoc first (replies_of rounds) ending ∙ refl)
      (rest-front first (replies_of rounds) ending before given' front);
  reached = elim (last-of rounds) [
    | inl none ↦ inl none
    | inr (earlier, last, is) ↦ inr (record {
      earlier = earlier;
      last = last;
      split = is;
      more = served_text last ++ take front.count ending;
      given = front.given ∙ ap (λ (text : List ℕ). Some text) (pieces before first (replies_of rounds) (replies_of earlier) (served_text last) (take front.count ending) (replies-split rounds earlier last is));
    })
  ];
}
  where
    rest-front : (first replies ending before : List ℕ) (given' : Option (List ℕ)) → GivesFront ((before ++ first) ++ replies) ending given'
        → GivesFront before ((first ++ replies) ++ ending) given'
    rest-front first replies ending before given' front =
        subst (λ (text : List ℕ). GivesFront before text given') (ap (λ (text : List ℕ). (first ++ replies) ++ text) (nothing ending))
        (front-within before (first ++ replies) ending [] given' (subst (λ (done : List ℕ). GivesFront done ending given') (append_assoc before first replies) front))
      where
        nothing : (text : List ℕ) → text ++ [] ≡ text
        nothing [] = refl
        nothing (byte ∷ text) = ap (λ (rest : List ℕ). byte ∷ rest) (nothing text)

    pieces : (before first replies earlier last more : List ℕ) → replies ≡ earlier ++ last
        → ((before ++ first) ++ replies) ++ more ≡ before ++ ((first ++ earlier) ++ (last ++ more))
    pieces before first replies earlier last more is = rw is (simp append_assoc)

-- the replies of the last round failed
last-failed : (first ending before : List ℕ) (rounds earlier : List (List Served)) (last : List Served) (given' : Option (List ℕ)) → rounds ≡ earlier ++ last ∷ []
    → GivesFront ((before ++ first) ++ replies_of earlier) (served_text last) given' → FrontOf first rounds ending before given'
last-failed first ending before rounds earlier last given' is front = record {
  front = subst (λ (text : List ℕ). GivesFront before text given') (all first (replies_of rounds) (replies_of earlier) (served_text last) ending (replies-split rounds earlier last is))
      (front-within before (first ++ replies_of earlier) (served_text last) ending given'
      (subst (λ (done : List ℕ). GivesFront done (served_text last) given') (append_assoc before first (replies_of earlier)) front));
  reached = inr (record {
    earlier = earlier;
    last = last;
    split = is;
    more = take front.count (served_text last);
    given = front.given ∙ ap (λ (text : List ℕ). Some text) (pieces before first (replies_of earlier) (take front.count (served_text last)));
  });
}
  where
    all : (first replies earlier last ending : List ℕ) → replies ≡ earlier ++ last → (first ++ earlier) ++ (last ++ ending) ≡ first ++ (replies ++ ending)
    all first replies earlier last ending is = rw is (simp append_assoc)

    pieces : (before first earlier more : List ℕ) → ((before ++ first) ++ earlier) ++ more ≡ before ++ ((first ++ earlier) ++ more)
    pieces before first earlier more = simp append_assoc

-- the last lines behind all replies
behind-all : (given given₁ given₂ given' : Option (List ℕ)) (first : List ℕ) (rounds : List (List Served)) (ending : List ℕ) (ended result : Status)
    → ((before : List ℕ) → given ≡ Some before → given₁ ≡ Some (before ++ first))
    → ((before : List ℕ) → given₁ ≡ Some before → given₂ ≡ Some (before ++ replies_of rounds))
    → Prints given₂ given' ending ended result → PrintsPieces given given' first rounds ending ended result
behind-all given given₁ given₂ given' first rounds ending ended result opened replied (inl all) = inl (
  all.0,
  (λ before is. all.1 ((before ++ first) ++ replies_of rounds) (replied (before ++ first) (opened before is))
      ∙ ap (λ (text : List ℕ). Some text) (pieces before first (replies_of rounds) ending)),
)
  where
    pieces : (before first replies ending : List ℕ) → ((before ++ first) ++ replies) ++ ending ≡ before ++ (first ++ (replies ++ ending))
    pieces before first replies ending = simp append_assoc
behind-all given given₁ given₂ given' first rounds ending ended result opened replied (inr some) = inr (
  some.0,
  (λ before is. ending-failed first ending before rounds given' (some.1 ((before ++ first) ++ replies_of rounds) (replied (before ++ first) (opened before is)))),
)

-- how a session is printed whose first line was given
pub prints-pieces : (stop : Stop) (stopped : Stopped) (around : Around) (rounds : List (List Served)) (given given' : Option (List ℕ)) (faults faults' : ℕ) (first ending : List ℕ) (result : Status)
    → ((before : List ℕ) → given ≡ Some before → around.given ≡ Some (before ++ first))
    → GivesReplies around rounds stop → PrintsEndingBy stop around.given' given' faults faults' stopped ending result
    → PrintsPieces given given' first rounds ending (status_of stopped.stop stopped.some_fault stopped.some_memory) result
prints-pieces Read stopped around rounds given given' faults faults' first ending result opened replies ended =
    behind-all given around.given around.given' given' first rounds ending _ result opened replies.told ended.printed
prints-pieces (Line error) stopped around rounds given given' faults faults' first ending result opened replies ended =
    behind-all given around.given around.given' given' first rounds ending _ result opened replies.told ended.printed
prints-pieces (Source count) stopped around rounds given given' faults faults' first ending result opened replies ended =
    behind-all given around.given around.given' given' first rounds ending _ result opened replies.told ended.printed
prints-pieces Memory stopped around rounds given given' faults faults' first ending result opened replies ended =
    behind-all given around.given around.given' given' first rounds ending _ result opened replies.told ended.printed
prints-pieces Sink stopped around rounds given given' faults faults' first ending result opened replies ended = inr (
  ended.ended,
  (λ before is. last-failed first ending before rounds replies.earlier replies.last given' replies.split
      (subst (λ (now : Option (List ℕ)). GivesFront ((before ++ first) ++ replies_of replies.earlier) (served_text replies.last) now) (sym ended.same) (replies.front (before ++ first) (opened before is)))),
)

-- and one whose first line wasn't
pub prints-none : (stop : Stop) (stopped : Stopped) (given given₁ given' : Option (List ℕ)) (faults faults' : ℕ) (first ending : List ℕ) (ended result : Status) → stop ≡ Sink
    → ((before : List ℕ) → given ≡ Some before → GivesFront before first given₁)
    → PrintsEndingBy stop given₁ given' faults faults' stopped ending result → PrintsPieces given given' first [] ending ended result
prints-none Sink stopped given given₁ given' faults faults' first ending ended result is failed last = inr (
  last.ended,
  (λ before told. record {
    front = subst (λ (now : Option (List ℕ)). GivesFront before (first ++ ending) now) (sym last.same) (front-longer before first ending given₁ (failed before told));
    reached = inl refl;
  }),
)
prints-none Read stopped given given₁ given' faults faults' first ending ended result is failed last = cc
prints-none (Line error) stopped given given₁ given' faults faults' first ending ended result is failed last = cc
prints-none (Source count) stopped given given₁ given' faults faults' first ending ended result is failed last = cc
prints-none Memory stopped given given₁ given' faults faults' first ending ended result is failed last = cc
