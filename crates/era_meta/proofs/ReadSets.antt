-- Archived sets that are read, one behind the other.
use Rattle.std.proofs.Common.{◌≡◌, ℕ, ◌+◌, ◌<◌, List, [], ◌∷◌, ◌++◌, length, get_or, take, map, sym, ap, ◌∙◌, subst}
use Rattle.std.proofs.lemmas.List.{take_more, map-append}
use Rattle.era_layout.specs.declared.archive.Archived.{Archived}
use Rattle.era_model.specs.Marks.{ArchivedSet}
use Rattle.era_meta.specs.Content.{archived_content}
use Rattle.era_meta.specs.SaysMarks.{HasSets, SayFlags, SaySets}
use Rattle.era_meta.proofs.PutSets.{say-push}

has-push : (sets : List ArchivedSet) (archive : List Archived) (set : ArchivedSet) (one : Archived) → HasSets sets archive → one.era ≡ set.era
    → HasSets (sets ++ set ∷ []) (archive ++ one ∷ [])
has-push [] [] set one has era = (era, tt)
has-push [] (other ∷ archive) set one has era = absurd has
has-push (first ∷ sets) [] set one has era = absurd has
has-push (first ∷ sets) (other ∷ archive) set one has era = (has.0, has-push sets archive set one has.1 era)

take-next : (archive : List Archived) (index : ℕ) (x : Archived) → index < length archive → x ≡ get_or archive index x
    → take (index + 1) archive ≡ take index archive ++ x ∷ []
take-next archive index x lt is = take_more archive index x lt ∙ ap (λ (set : Archived). take index archive ++ set ∷ []) (sym is)

pub eras-read : (archive : List Archived) (sets : List ArchivedSet) (set : ArchivedSet) (index : ℕ) (x : Archived) → index < length archive → x ≡ get_or archive index x
    → set.era ≡ x.era → HasSets sets (take index archive) → HasSets (sets ++ set ∷ []) (take (index + 1) archive)
eras-read archive sets set index x lt is era has =
    subst (HasSets (sets ++ set ∷ [])) (sym (take-next archive index x lt is)) (has-push sets (take index archive) set x has (sym era))

pub set-read : (page : ℕ → List ℕ) (archive : List Archived) (sets : List ArchivedSet) (set : ArchivedSet) (index : ℕ) (x : Archived) → index < length archive
    → x ≡ get_or archive index x → set.era ≡ x.era → SayFlags set.blocks (map page x.pages) → SaySets sets (map (archived_content page) (take index archive))
    → SaySets (sets ++ set ∷ []) (map (archived_content page) (take (index + 1) archive))
set-read page archive sets set index x lt is era flags says =
    let rest : map (archived_content page) (take (index + 1) archive) ≡ map (archived_content page) (take index archive) ++ archived_content page x ∷ []
    = ap (map (archived_content page)) (take-next archive index x lt is) ∙ map-append (archived_content page) (take index archive) (x ∷ []) in
    subst (SaySets (sets ++ set ∷ [])) (sym rest)
    (say-push sets (map (archived_content page) (take index archive)) set (archived_content page x) says (sym era) flags)
