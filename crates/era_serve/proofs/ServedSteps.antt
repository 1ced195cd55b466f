-- Commands that were served, and more of them behind: what they come to together.
use Rattle.std.proofs.Common.{◌≡◌, ℕ, ◌||◌, Bool, true, false, List, [], ◌∷◌, ◌++◌, length, Option, Some, refl, ap, sym, ◌∙◌, subst, append_assoc, append-nil}
use Rattle.std.proofs.lemmas.List.{map-append}
use Rattle.std.proofs.lemmas.List.Folds.{list_any-append}
use Rattle.era_base.specs.Faults.{Rose}
use Rattle.era_base.specs.declared.disk.Disk.{Ghosts}
use Rattle.era_line.specs.TextBuffer.{IsEmpty}
use Rattle.era_line.specs.declared.text_buffer.TextBuffer.{TextBuffer}
use Rattle.era_model.specs.Transcript.{reply_line}
use Rattle.era_model.specs.declared.command.Command.{Command}
use Rattle.era_serve.specs.Answers.{says_fault, says_memory, some_fault_in, some_memory_in}
use Rattle.era_serve.specs.Replying.{HasAnswered, HasFlushed, HasGiven, HasMarked, HasNoted, HasReplied, IsFlushedBy, IsGivenBy, IsToldBy, LosesBy, Tells, Told}
use Rattle.era_serve.specs.declared.replies.Replies.{Replies}
use Rattle.era_served.specs.Served.{HasServed, HasServedAll, Served, commands_of, served_text}
use Rattle.era_session.specs.Sessions.{SessionFits}
use Rattle.era_session.specs.Trails.{with_places}
use Rattle.era_session.specs.declared.session.Session.{Session}

never-empty : {X : Type 0} (front : List X) (last : X) → [] ≡ front ++ last ∷ [] → ⊥
never-empty [] last e = absurd (cc)
never-empty (first ∷ front) last e = absurd (cc)

pub served-then : {D : Type 0} (disk : Ghosts D) (first more : List Served) (old between new : Session D) → HasServedAll disk first old between → HasServedAll disk more between new
    → HasServedAll disk (first ++ more) old new
served-then {D} disk [] more old between new is rest = subst (λ (s : Session D). HasServedAll disk more s new) is rest
served-then disk (one ∷ first) more old between new (next, has, later) rest = (next, has, served-then disk first more next between new later rest)

pub text-then : (first more : List Served) → served_text (first ++ more) ≡ served_text first ++ served_text more
text-then [] more = refl
text-then (one ∷ first) more =
    ap (λ text. reply_line one.command.line (with_places one.trail) ++ text) (text-then first more)
    ∙ sym (append_assoc (reply_line one.command.line (with_places one.trail)) (served_text first) (served_text more))

pub commands-then : (first more : List Served) → commands_of (first ++ more) ≡ commands_of first ++ commands_of more
commands-then first more = map-append (λ (one : Served). one.command) first more

-- as many stripes
pub served-count : {D : Type 0} (disk : Ghosts D) (served : List Served) (old new : Session D) → HasServedAll disk served old new → length new.stripes.items ≡ length old.stripes.items
served-count {D} disk [] old new is = ap (λ (s : Session D). length s.stripes.items) is
served-count disk (one ∷ more) old new (next, has, later) = served-count disk more next new later ∙ has.same.count

or-assoc : (a b c : Bool) → ((a || b) || c) ≡ (a || (b || c))
or-assoc true b c = refl
or-assoc false b c = refl

or-none : (a : Bool) → a ≡ (a || false)
or-none true = refl
or-none false = refl

pub marked-then : (first more : List Served) (a b c : Replies) → HasMarked first a b → HasMarked more b c → HasMarked (first ++ more) a c
marked-then first more a b c one two = record {
  fault = two.fault ∙ ap (λ flag. flag || some_fault_in more) one.fault
      ∙ or-assoc a.some_fault (some_fault_in first) (some_fault_in more)
      ∙ ap (λ flag. a.some_fault || flag) (sym (list_any-append (λ (one : Served). says_fault one.answer) first more));
  memory = two.memory ∙ ap (λ flag. flag || some_memory_in more) one.memory
      ∙ or-assoc a.some_memory (some_memory_in first) (some_memory_in more)
      ∙ ap (λ flag. a.some_memory || flag) (sym (list_any-append (λ (one : Served). says_memory one.answer) first more));
}

pub marked-none : (a : Replies) → HasMarked [] a a
marked-none a = record { fault = or-none a.some_fault; memory = or-none a.some_memory }

pub loses-none : (told : Told) → LosesBy told told
loses-none told = record { stays = λ lost. lost; kept = λ same. refl; rose = λ none lost. absurd (cc) }

-- the sink failed at the one or at the other
kept-by : (a b c : Bool) (f g h : ℕ) → (a ≡ true → b ≡ true) → (b ≡ true → c ≡ true) → (b ≡ a → g ≡ f) → (c ≡ b → h ≡ g) → c ≡ a → h ≡ f
kept-by true b c f g h s t one two is = two (is ∙ sym (s refl)) ∙ one (s refl)
kept-by false true c f g h s t one two is = absurd (let lost = t refl in cc)
kept-by false false c f g h s t one two is = two is ∙ one refl

rose-by : (a b c : Bool) (f g h : ℕ) → (b ≡ a → g ≡ f) → (c ≡ b → h ≡ g) → (a ≡ false → b ≡ true → Rose f g) → (b ≡ false → c ≡ true → Rose g h) → a ≡ false → c ≡ true → Rose f h
rose-by a true c f g h one two rose rose' is lost = subst (Rose f) (sym (two lost)) (rose is refl)
rose-by a false c f g h one two rose rose' is lost = subst (λ n. Rose n h) (one (sym is)) (rose' refl lost)

pub loses-then : (a b c : Told) → LosesBy a b → LosesBy b c → LosesBy a c
loses-then a b c one two = record {
  stays = λ lost. two.stays (one.stays lost);
  kept = kept-by a.replies.lost b.replies.lost c.replies.lost a.faults b.faults c.faults one.stays two.stays one.kept two.kept;
  rose = rose-by a.replies.lost b.replies.lost c.replies.lost a.faults b.faults c.faults one.kept two.kept one.rose two.rose;
}

pub replied-none : {D : Type 0} (disk : Ghosts D) (session : Session D) (told : Told) → SessionFits disk session → HasReplied disk [] session session told told
replied-none disk session told fits = record {
  served = [];
  are = refl;
  all = refl;
  fits = fits;
  text = λ before text is. subst (λ all. Tells before all told) (sym (append-nil text)) is;
  loses = loses-none told;
  marked = marked-none told.replies;
}

pub replied-then : {D : Type 0} (disk : Ghosts D) (first more : List Command) (old between new : Session D) (a b c : Told) → HasReplied disk first old between a b → HasReplied disk more between new b c
    → HasReplied disk (first ++ more) old new a c
replied-then disk first more old between new a b c one two = record {
  served = one.served ++ two.served;
  are = commands-then one.served two.served ∙ ap (λ l. l ++ commands_of two.served) one.are ∙ ap (λ l. first ++ l) two.are;
  all = served-then disk one.served two.served old between new one.all two.all;
  fits = two.fits;
  text = λ before text is.
      subst (λ all. Tells before all c) (append_assoc text (served_text one.served) (served_text two.served) ∙ ap (λ all. text ++ all) (sym (text-then one.served two.served)))
      (two.text before (text ++ served_text one.served) (one.text before text is));
  loses = loses-then a b c one.loses two.loses;
  marked = marked-then one.served two.served a.replies b.replies c.replies one.marked two.marked;
}

-- one command was served
pub replied-one : {D : Type 0} (disk : Ghosts D) (one : Served) (old new : Session D) (told noted told' : Told) → HasServed disk one old new
    → noted.given ≡ told.given → noted.faults ≡ told.faults → HasNoted one.answer told.replies noted.replies
    → HasGiven (reply_line one.command.line (with_places one.trail)) noted told' → HasReplied disk (one.command ∷ []) old new told told'
replied-one disk one old new told noted told' has given faults note gives = record {
  served = one ∷ [];
  are = refl;
  all = (new, has, refl);
  fits = has.fits';
  text = λ before text is.
      subst (λ all. Tells before all told') (ap (λ all. text ++ all) (sym (append-nil (reply_line one.command.line (with_places one.trail)))))
      (gives.text before text
      (subst (λ b. IsToldBy b before text noted.given noted.replies.text) (sym note.lost)
      (subst (λ (buffer : TextBuffer). IsToldBy told.replies.lost before text noted.given buffer) (sym note.text)
      (subst (λ (g : Option (List ℕ)). IsToldBy told.replies.lost before text g told.replies.text) (sym given) is))));
  loses = record {
    stays = λ lost. gives.loses.stays (note.lost ∙ lost);
    kept = λ same. gives.loses.kept (same ∙ sym note.lost) ∙ faults;
    rose = λ none lost. subst (λ n. Rose n told'.faults) faults (gives.loses.rose (note.lost ∙ none) lost);
  };
  marked = record {
    fault = gives.fault ∙ note.fault ∙ ap (λ flag. told.replies.some_fault || flag) (or-none (says_fault one.answer));
    memory = gives.memory ∙ note.memory ∙ ap (λ flag. told.replies.some_memory || flag) (or-none (says_memory one.answer));
  };
}

-- commands were served, and what is left of their text was given
pub answered-by : {D : Type 0} (disk : Ghosts D) (commands : List Command) (old new : Session D) (told told' told'' : Told) → HasReplied disk commands old new told told' → HasFlushed told' told''
    → IsEmpty told.replies.text → told.replies.lost ≡ false → HasAnswered disk commands old new told told''
answered-by disk commands old new told told' told'' replied flushed empty reads = record {
  served = replied.served;
  are = replied.are;
  all = replied.all;
  fits = replied.fits;
  given = by told''.replies.lost refl;
  loses = loses-then told told' told'' replied.loses flushed.loses;
  marked = record { fault = flushed.fault ∙ replied.marked.fault; memory = flushed.memory ∙ replied.marked.memory };
}
  where
    whole : (before : List ℕ) → told.given ≡ Some before → IsFlushedBy told''.replies.lost before (served_text replied.served) told''
    whole before is =
        flushed.text before (served_text replied.served)
        (replied.text before [] (subst (λ b. IsToldBy b before [] told.given told.replies.text) (sym reads) (empty before told.given is)))

    by : (lost : Bool) → told''.replies.lost ≡ lost → IsGivenBy told''.replies.lost replied.served told told''
    by false is =
        subst (λ b. IsGivenBy b replied.served told told'') (sym is)
        (flushed.empty is, (λ before at. subst (λ b. IsFlushedBy b before (served_text replied.served) told'') is (whole before at)))
    by true is =
        subst (λ b. IsGivenBy b replied.served told told'') (sym is)
        (λ before at. subst (λ b. IsFlushedBy b before (served_text replied.served) told'') is (whole before at))

-- the last one of two lists
pub last-same : {X : Type 0} (xs ys : List X) (x y : X) → xs ++ x ∷ [] ≡ ys ++ y ∷ [] → (xs ≡ ys) × (x ≡ y)
last-same [] [] x y is = (refl, cc)
last-same [] (b ∷ ys) x y is = absurd (let e : [] ≡ ys ++ y ∷ [] = cc in never-empty ys y e)
last-same (a ∷ xs) [] x y is = absurd (let e : xs ++ x ∷ [] ≡ [] = cc in never-empty xs x (sym e))
last-same (a ∷ xs) (b ∷ ys) x y is =
    let first : a ≡ b = cc in
    let rest : xs ++ x ∷ [] ≡ ys ++ y ∷ [] = cc in
    let both = last-same xs ys x y rest in
    (rw first (ap (λ l. b ∷ l) both.0), both.1)
