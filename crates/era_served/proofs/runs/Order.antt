-- The order of the commands in a journal: each draws its entries behind those of the commands before it.
use Rattle.std.proofs.Common.{◌≡◌, ℕ, zero, suc, ◌+◌, ◌<◌, ◌≤◌, ◌||◌, Bool, true, false, List, ◌∷◌, ◌++◌, length, Contains, refl, sym, ap, ap₂, ◌∙◌, subst, arith, []}
use Rattle.std.proofs.lemmas.Grind.{flat_map-append}
use Rattle.std.proofs.lemmas.List.{append-nil, map-append}
use Rattle.era_base.specs.declared.disk.Disk.{Ghosts}
use Rattle.era_base.specs.declared.ids.CmdId.{CmdId}
use Rattle.era_gate.specs.Rule.{Each}
use Rattle.era_model.specs.Commands.{commands_in, commands_of as commands_in_rounds, events_of, round_of}
use Rattle.era_model.specs.Events.{drawn_by, same_id}
use Rattle.era_model.specs.Journal.{AreNumberedFrom}
use Rattle.era_model.specs.SessionRun.{AllBefore, AllStandBefore, AreParted, IsBefore, KeepsLanes, KeepsRounds, StandsBefore, is_among}
use Rattle.era_model.specs.declared.command.Command.{Command}
use Rattle.era_model.specs.declared.command.Task.{Task}
use Rattle.era_model.specs.declared.entry.Entry.{Entry}
use Rattle.era_model.specs.declared.history.Happening.{Happening}
use Rattle.era_model.specs.declared.reply.Answer.{Answer}
use Rattle.era_model.proofs.CommandReplies.{same_id-refl}
use Rattle.era_served.specs.Served.{HasServedAll, Served, commands_of, entries_of, joined, rounds_of}
use Rattle.era_session.specs.Serving.{TaskDid}
use Rattle.era_session.specs.Sessions.{SessionFits}
use Rattle.era_session.specs.Trails.{LeavesTrail, with_places}
use Rattle.era_session.specs.declared.session.Session.{Session}

-- facts of each item
pub each-of : {A : Type 0} (P : A → Type 0) (xs : List A) → ((x : A) → Contains xs x → P x) → Each P xs
each-of P [] holds = tt
each-of P (x ∷ xs) holds = (holds x (zero, omega arith, refl), each-of P xs (λ y at. holds y (suc (at.0), (let low = at.1 in omega (arith, low)), at.2)))

pub each-map : {A : Type 0} (P Q : A → Type 0) (xs : List A) → ((x : A) → P x → Q x) → Each P xs → Each Q xs
each-map P Q [] turn all = tt
each-map P Q (x ∷ xs) turn all = (turn x all.0, each-map P Q xs turn all.1)

pub each-both : {A : Type 0} (P : A → Type 0) (a b : List A) → Each P a → Each P b → Each P (a ++ b)
each-both P [] b one two = two
each-both P (x ∷ a) b one two = (one.0, each-both P a b one.1 two)

pub each-first : {A : Type 0} (P : A → Type 0) (a b : List A) → Each P (a ++ b) → Each P a
each-first P [] b all = tt
each-first P (x ∷ a) b all = (all.0, each-first P a b all.1)

pub each-second : {A : Type 0} (P : A → Type 0) (a b : List A) → Each P (a ++ b) → Each P b
each-second P [] b all = all
each-second P (x ∷ a) b all = each-second P a b all.1

each-pair : {A : Type 0} (P Q : A → Type 0) (xs : List A) → Each P xs → Each Q xs → Each (λ (x : A). P x × Q x) xs
each-pair P Q [] one two = tt
each-pair P Q (x ∷ xs) one two = ((one.0, two.0), each-pair P Q xs one.1 two.1)

-- each entry of a command is its own
abbrev pub IsOwn : Served → Type 0
IsOwn one = Each (λ (e : Entry). drawn_by e.event ≡ one.command.id) one.trail

pub all-own : {D : Type 0} (disk : Ghosts D) (law : (id : CmdId) (task : Task) (answer : Answer) (old new : Session D) → SessionFits disk old → TaskDid disk id task answer old new → LeavesTrail id task answer old new)
    (served : List Served) (old new : Session D) → HasServedAll disk served old new → Each IsOwn served
all-own disk law [] old new all = tt
all-own disk law (one ∷ more) old new (between, has, all) = (
  subst (λ (trail : List Entry). Each (λ (e : Entry). drawn_by e.event ≡ one.command.id) trail) has.trail (law one.command.id one.command.task one.answer old between has.fits has.did).own,
  all-own disk law more between new all,
)

-- each entry was drawn by one of the commands
among-later : (id : CmdId) (command : Command) (commands : List Command) → is_among id commands ≡ true → is_among id (command ∷ commands) ≡ true
among-later id command commands is = on (same_id command.id id)
  where
    on : (same : Bool) → (same || is_among id commands) ≡ true
    on true = refl
    on false = is

among-themselves : (served : List Served) → Each (λ (one : Served). is_among one.command.id (commands_of served) ≡ true) served
among-themselves [] = tt
among-themselves (one ∷ more) = (
  ap (λ (same : Bool). same || is_among one.command.id (commands_of more)) (same_id-refl one.command.id),
  each-map (λ (it : Served). is_among it.command.id (commands_of more) ≡ true) (λ (it : Served). is_among it.command.id (commands_of (one ∷ more)) ≡ true) more
      (λ it is. among-later it.command.id one.command (commands_of more) is) (among-themselves more),
)

drawn-among : (commands : List Command) (served : List Served) → Each IsOwn served → Each (λ (one : Served). is_among one.command.id commands ≡ true) served
    → Each (λ (e : Entry). is_among (drawn_by e.event) commands ≡ true) (entries_of served)
drawn-among commands [] own among = tt
drawn-among commands (one ∷ more) own among =
    each-both (λ (e : Entry). is_among (drawn_by e.event) commands ≡ true) one.trail (entries_of more)
    (each-map (λ (e : Entry). drawn_by e.event ≡ one.command.id) (λ (e : Entry). is_among (drawn_by e.event) commands ≡ true) one.trail
    (λ e is. ap (λ (id : CmdId). is_among id commands) is ∙ among.0) own.0)
    (drawn-among commands more own.1 among.1)

pub each-drawn : (served : List Served) → Each IsOwn served → Each (λ (e : Entry). is_among (drawn_by e.event) (commands_of served) ≡ true) (entries_of served)
each-drawn served own = drawn-among (commands_of served) served own (among-themselves served)

-- places of entries that are numbered
numbered-first : (n : ℕ) (a b : List Entry) → AreNumberedFrom n (a ++ b) → AreNumberedFrom n a
numbered-first n [] b are = tt
numbered-first n (e ∷ a) b are = (are.0, numbered-first (n + 1) a b are.1)

numbered-second : (n : ℕ) (a b : List Entry) → AreNumberedFrom n (a ++ b) → AreNumberedFrom (n + length a) b
numbered-second n [] b are = subst (λ m. AreNumberedFrom m b) (omega arith) are
numbered-second n (e ∷ a) b are = subst (λ m. AreNumberedFrom m b) (omega arith) (numbered-second (n + 1) a b are.1)

places-from : (n m : ℕ) (entries : List Entry) → m ≤ n → AreNumberedFrom n entries → Each (λ (e : Entry). m ≤ e.place) entries
places-from n m [] low are = tt
places-from n m (e ∷ entries) low are = ((let is = are.0 in omega (arith, low, is)), places-from (n + 1) m entries (omega (arith, low)) are.1)

places-below : (n m : ℕ) (entries : List Entry) → n + length entries ≤ m → AreNumberedFrom n entries → Each (λ (e : Entry). e.place < m) entries
places-below n m [] high are = tt
places-below n m (e ∷ entries) high are = ((let is = are.0 in omega (arith, high, is)), places-below (n + 1) m entries (omega (arith, high)) are.1)

-- the events of a command are its trail
abbrev pub IsTold : List Happening → Served → Type 0
IsTold h one = events_of h one.command.id ≡ with_places one.trail

-- all places of a command's trail are below a bound, or not below it
abbrev EndsBelow : ℕ → Served → Type 0
EndsBelow m one = Each (λ (e : Entry). e.place < m) one.trail

abbrev BeginsAt : ℕ → Served → Type 0
BeginsAt m one = Each (λ (e : Entry). m ≤ e.place) one.trail

trails-from : (m : ℕ) (served : List Served) → Each (λ (e : Entry). m ≤ e.place) (entries_of served) → Each (BeginsAt m) served
trails-from m [] all = tt
trails-from m (one ∷ more) all =
    (each-first (λ (e : Entry). m ≤ e.place) one.trail (entries_of more) all, trails-from m more (each-second (λ (e : Entry). m ≤ e.place) one.trail (entries_of more) all))

trails-below : (m : ℕ) (served : List Served) → Each (λ (e : Entry). e.place < m) (entries_of served) → Each (EndsBelow m) served
trails-below m [] all = tt
trails-below m (one ∷ more) all =
    (each-first (λ (e : Entry). e.place < m) one.trail (entries_of more) all, trails-below m more (each-second (λ (e : Entry). e.place < m) one.trail (entries_of more) all))

is-before : (place m : ℕ) (entries : List Entry) → place < m → Each (λ (e : Entry). m ≤ e.place) entries → IsBefore place (with_places entries)
is-before place m [] low all = tt
is-before place m (e ∷ entries) low all = ((let from = all.0 in omega (arith, low, from)), is-before place m entries low all.1)

all-before : (m : ℕ) (a b : List Entry) → Each (λ (e : Entry). e.place < m) a → Each (λ (e : Entry). m ≤ e.place) b → AllBefore (with_places a) (with_places b)
all-before m [] b below from = tt
all-before m (e ∷ a) b below from = (is-before e.place m b below.0 from, all-before m a b below.1 from)

told-before : (h : List Happening) (m : ℕ) (one later : Served) → EndsBelow m one → BeginsAt m later → IsTold h one → IsTold h later → AllBefore (events_of h one.command.id) (events_of h later.command.id)
told-before h m one later below from told told' = rw (told, told') (all-before m one.trail later.trail below from)

-- a command stands before later ones
stands-before : (h : List Happening) (m : ℕ) (one : Served) (more : List Served) → EndsBelow m one → IsTold h one → Each (BeginsAt m) more → Each (IsTold h) more → StandsBefore h one.command (commands_of more)
stands-before h m one [] below told from tolds = tt
stands-before h m one (later ∷ more) below told from tolds =
    ((λ lane. told-before h m one later below from.0 told tolds.0), stands-before h m one more below told from.1 tolds.1)

pub keeps-lanes : (h : List Happening) (n : ℕ) (served : List Served) → AreNumberedFrom n (entries_of served) → Each (IsTold h) served → KeepsLanes h (commands_of served)
keeps-lanes h n [] numbered tolds = tt
keeps-lanes h n (one ∷ more) numbered tolds =
    let m : ℕ = n + length one.trail in
    let later = numbered-second n one.trail (entries_of more) numbered in (
      stands-before h m one more (places-below n m one.trail (omega arith) (numbered-first n one.trail (entries_of more) numbered)) tolds.0
          (trails-from m more (places-from m m (entries_of more) (omega arith) later)) tolds.1,
      keeps-lanes h m more later tolds.1,
    )

-- commands that all stand before others
all-stand-before : (h : List Happening) (m : ℕ) (firsts : List Served) (later : Served) → Each (EndsBelow m) firsts → Each (IsTold h) firsts → BeginsAt m later → IsTold h later → AllStandBefore h (commands_of firsts) later.command
all-stand-before h m [] later below tolds from told = tt
all-stand-before h m (one ∷ firsts) later below tolds from told =
    (told-before h m one later below.0 from tolds.0 told, all-stand-before h m firsts later below.1 tolds.1 from told)

parted : (h : List Happening) (m : ℕ) (firsts laters : List Served) → Each (EndsBelow m) firsts → Each (IsTold h) firsts → Each (BeginsAt m) laters → Each (IsTold h) laters → AreParted h (commands_of firsts) (commands_of laters)
parted h m firsts [] below tolds from tolds' = tt
parted h m firsts (later ∷ laters) below tolds from tolds' =
    (all-stand-before h m firsts later below tolds from.0 tolds'.0, parted h m firsts laters below tolds from.1 tolds'.1)

-- the commands of rounds
in-round : (commands : List Command) → commands_in (round_of commands) ≡ commands
in-round commands = append-nil commands

pub in-rounds : (rounds : List (List Served)) → commands_in_rounds (rounds_of rounds) ≡ commands_of (joined rounds)
in-rounds [] = refl
in-rounds (round ∷ rounds) =
    ap₂ (λ (a b : List Command). a ++ b) (in-round (commands_of round)) (in-rounds rounds)
    ∙ sym (map-append (λ (one : Served). one.command) round (joined rounds))

entries-both : (a b : List Served) → entries_of (a ++ b) ≡ entries_of a ++ entries_of b
entries-both a b = flat_map-append (λ (one : Served). one.trail) a b

pub keeps-rounds : (h : List Happening) (n : ℕ) (rounds : List (List Served)) → AreNumberedFrom n (entries_of (joined rounds)) → Each (IsTold h) (joined rounds) → KeepsRounds h (rounds_of rounds)
keeps-rounds h n [] numbered tolds = tt
keeps-rounds h n (round ∷ rounds) numbered tolds =
    let later = joined rounds in
    let m : ℕ = n + length (entries_of round) in
    let all = subst (AreNumberedFrom n) (entries-both round later) numbered in
    let behind = numbered-second n (entries_of round) (entries_of later) all in
    let own = parted h m round later
    (trails-below m round (places-below n m (entries_of round) (omega arith) (numbered-first n (entries_of round) (entries_of later) all)))
    (each-first (IsTold h) round later tolds)
    (trails-from m later (places-from m m (entries_of later) (omega arith) behind))
    (each-second (IsTold h) round later tolds) in (
      subst (λ (a : List Command). AreParted h a (commands_in_rounds (rounds_of rounds))) (sym (in-round (commands_of round)))
          (subst (λ (b : List Command). AreParted h (commands_of round) b) (sym (in-rounds rounds)) own),
      keeps-rounds h m rounds behind (each-second (IsTold h) round later tolds),
    )
