-- What sectors were at the last sync stays, where a part of them is marked or written.
use Rattle.std.proofs.Common.{◌≡◌, ℕ, ◌+◌, ◌≤◌, Bool, true, List, [], ◌∷◌, ◌++◌, length, take, drop, replicate, arith, refl, sym, ◌∙◌, ap}
use Rattle.std.specs.Prelude.{Option}
use Rattle.std.proofs.lemmas.List.{take-append-drop, length-take-le, length-replicate}
use borrow.Rule.Slice.PartMut.{put_mid}
use Rattle.era_disks.specs.Tears.{synced_row, synced_rows}
use Rattle.era_disks.proofs.RowParts.{length-part}

synced-append : (ps qs : List Bool) (ks ls : List (Option (List ℕ))) (rs ss : List (List ℕ)) → length ks ≡ length ps → length rs ≡ length ps
    → synced_rows (ps ++ qs) (ks ++ ls) (rs ++ ss) ≡ synced_rows ps ks rs ++ synced_rows qs ls ss
synced-append [] qs [] ls [] ss k r = refl
synced-append [] qs (old ∷ ks) ls rs ss k r = absurd (omega (arith, k))
synced-append [] qs [] ls (row ∷ rs) ss k r = absurd (omega (arith, r))
synced-append (p ∷ ps) qs [] ls rs ss k r = absurd (omega (arith, k))
synced-append (p ∷ ps) qs (old ∷ ks) ls [] ss k r = absurd (omega (arith, r))
synced-append (p ∷ ps) qs (old ∷ ks) ls (row ∷ rs) ss k r =
    ap (λ rest. synced_row p old row ∷ rest) (synced-append ps qs ks ls rs ss (omega (arith, k)) (omega (arith, r)))

synced-parts : (first count : ℕ) (ps qs : List Bool) (ks ls : List (Option (List ℕ))) (rs ss : List (List ℕ))
    → length ks ≡ length ps → length rs ≡ length ps → first + count ≤ length ps
    → length qs ≡ count → length ls ≡ count → length ss ≡ count
    → synced_rows (put_mid first count ps qs) (put_mid first count ks ls) (put_mid first count rs ss)
    ≡ synced_rows (take first ps) (take first ks) (take first rs)
    ++ (synced_rows qs ls ss ++ synced_rows (drop count (drop first ps)) (drop count (drop first ks)) (drop count (drop first rs)))
synced-parts first count ps qs ks ls rs ss k r fits q l s =
    synced-append (take first ps) (qs ++ drop count (drop first ps)) (take first ks) (ls ++ drop count (drop first ks)) (take first rs) (ss ++ drop count (drop first rs))
    (length-take-le first ks (omega (arith, k)) ∙ sym (length-take-le first ps (omega arith)))
    (length-take-le first rs (omega (arith, r)) ∙ sym (length-take-le first ps (omega arith)))
    ∙ ap (λ rest. synced_rows (take first ps) (take first ks) (take first rs) ++ rest)
    (synced-append qs (drop count (drop first ps)) ls (drop count (drop first ks)) ss (drop count (drop first rs)) (l ∙ sym q) (s ∙ sym q))

mid-same : {A : Type 0} (first count : ℕ) (xs : List A) → put_mid first count xs (take count (drop first xs)) ≡ xs
mid-same first count xs =
    ap (λ rest. take first xs ++ rest) (take-append-drop count (drop first xs)) ∙ take-append-drop first xs

synced-mid : (first count : ℕ) (ps qs : List Bool) (ks ls : List (Option (List ℕ))) (rs ss : List (List ℕ))
    → length ks ≡ length ps → length rs ≡ length ps → first + count ≤ length ps
    → length qs ≡ count → length ls ≡ count → length ss ≡ count
    → synced_rows qs ls ss ≡ synced_rows (take count (drop first ps)) (take count (drop first ks)) (take count (drop first rs))
    → synced_rows (put_mid first count ps qs) (put_mid first count ks ls) (put_mid first count rs ss) ≡ synced_rows ps ks rs
synced-mid first count ps qs ks ls rs ss k r fits q l s same =
    synced-parts first count ps qs ks ls rs ss k r fits q l s
    ∙ ap (λ mid. synced_rows (take first ps) (take first ks) (take first rs)
    ++ (mid ++ synced_rows (drop count (drop first ps)) (drop count (drop first ks)) (drop count (drop first rs)))) same
    ∙ sym (synced-parts first count ps (take count (drop first ps)) ks (take count (drop first ks)) rs (take count (drop first rs)) k r fits
    (length-part first count ps fits) (length-part first count ks (omega (arith, k))) (length-part first count rs (omega (arith, r))))
    ∙ ap (λ xs. synced_rows xs (put_mid first count ks (take count (drop first ks))) (put_mid first count rs (take count (drop first rs)))) (mid-same first count ps)
    ∙ ap (λ xs. synced_rows ps xs (put_mid first count rs (take count (drop first rs)))) (mid-same first count ks)
    ∙ ap (λ xs. synced_rows ps ks xs) (mid-same first count rs)

-- a part is marked, and what was kept of its clean sectors is forgotten
pub synced-marked : (first count : ℕ) (ps : List Bool) (ks ls : List (Option (List ℕ))) (rs : List (List ℕ))
    → length ks ≡ length ps → length rs ≡ length ps → first + count ≤ length ps → length ls ≡ count
    → synced_rows (replicate count true) ls (take count (drop first rs)) ≡ synced_rows (take count (drop first ps)) (take count (drop first ks)) (take count (drop first rs))
    → synced_rows (put_mid first count ps (replicate count true)) (put_mid first count ks ls) rs ≡ synced_rows ps ks rs
synced-marked first count ps ks ls rs k r fits l same =
    ap (λ xs. synced_rows (put_mid first count ps (replicate count true)) (put_mid first count ks ls) xs) (sym (mid-same first count rs))
    ∙ synced-mid first count ps (replicate count true) ks ls rs (take count (drop first rs)) k r fits (length-replicate count true) l
    (length-part first count rs (omega (arith, r))) same

-- a part that is marked is written
pub synced-put : (first count : ℕ) (ps : List Bool) (ks ls : List (Option (List ℕ))) (rs ss : List (List ℕ))
    → length ks ≡ length ps → length rs ≡ length ps → first + count ≤ length ps → length ls ≡ count → length ss ≡ count
    → take count (drop first ps) ≡ replicate count true
    → synced_rows (replicate count true) ls ss ≡ synced_rows (replicate count true) (take count (drop first ks)) (take count (drop first rs))
    → synced_rows ps (put_mid first count ks ls) (put_mid first count rs ss) ≡ synced_rows ps ks rs
synced-put first count ps ks ls rs ss k r fits l s marked same =
    ap (λ xs. synced_rows xs (put_mid first count ks ls) (put_mid first count rs ss)) (sym (mid-same first count ps))
    ∙ synced-mid first count ps (take count (drop first ps)) ks ls rs ss k r fits (length-part first count ps fits) l s
    (ap (λ xs. synced_rows xs ls ss) marked ∙ same
    ∙ ap (λ xs. synced_rows xs (take count (drop first ks)) (take count (drop first rs))) (sym marked))

-- the same of lists that are equal
pub mark-synced : (first count : ℕ) (ps pd pe fill pn : List Bool) (ks kd ls kn : List (Option (List ℕ))) (rs : List (List ℕ))
    → pd ≡ ps → pe ≡ ps → kd ≡ ks → length ks ≡ length ps → length rs ≡ length ps → first + count ≤ length ps
    → fill ≡ replicate (length (take count (drop first pe))) true → pn ≡ put_mid first count ps fill
    → length ls ≡ count → kn ≡ put_mid first count ks ls
    → ((rows : List (List ℕ)) → synced_rows (replicate (length (take count (drop first pd))) true) ls rows
    ≡ synced_rows (take count (drop first pd)) (take count (drop first kd)) rows)
    → synced_rows pn kn rs ≡ synced_rows ps ks rs
mark-synced first count ps pd pe fill pn ks kd ls kn rs p e k size rows fits filled pn_is l kn_is forgot =
    let sized : length (take count (drop first ps)) ≡ count = length-part first count ps fits in
    let fill_is : fill ≡ replicate count true =
    filled ∙ ap (λ xs. replicate (length (take count (drop first xs))) true) e ∙ ap (λ n. replicate n true) sized in
    let part : List (List ℕ) = take count (drop first rs) in
    let same : synced_rows (replicate count true) ls part ≡ synced_rows (take count (drop first ps)) (take count (drop first ks)) part =
    ap (λ n. synced_rows (replicate n true) ls part) (sym sized)
    ∙ ap (λ xs. synced_rows (replicate (length (take count (drop first xs))) true) ls part) (sym p)
    ∙ forgot part
    ∙ ap (λ xs. synced_rows (take count (drop first xs)) (take count (drop first kd)) part) p
    ∙ ap (λ xs. synced_rows (take count (drop first ps)) (take count (drop first xs)) part) k in
    ap (λ xs. synced_rows xs kn rs) (pn_is ∙ ap (put_mid first count ps) fill_is)
    ∙ ap (λ xs. synced_rows (put_mid first count ps (replicate count true)) xs rs) kn_is
    ∙ synced-marked first count ps ks ls rs size rows fits l same

pub put-synced : (first count : ℕ) (ps : List Bool) (ks kd ls kn : List (Option (List ℕ))) (rs rd ss rn : List (List ℕ))
    → kd ≡ ks → rd ≡ rs → length ks ≡ length ps → length rs ≡ length ps → first + count ≤ length ps
    → length ls ≡ count → length ss ≡ count → kn ≡ put_mid first count ks ls → rn ≡ put_mid first count rs ss
    → take count (drop first ps) ≡ replicate count true
    → synced_rows (replicate (length (take count (drop first rd))) true) ls ss
    ≡ synced_rows (replicate (length (take count (drop first rd))) true) (take count (drop first kd)) (take count (drop first rd))
    → synced_rows ps kn rn ≡ synced_rows ps ks rs
put-synced first count ps ks kd ls kn rs rd ss rn k r size rows fits l s kn_is rn_is marked wrote =
    let sized : length (take count (drop first rd)) ≡ count = ap (λ xs. length (take count (drop first xs))) r ∙ length-part first count rs (omega (arith, rows)) in
    let flags : List Bool = replicate count true in
    let same : synced_rows flags ls ss ≡ synced_rows flags (take count (drop first ks)) (take count (drop first rs)) =
    ap (λ n. synced_rows (replicate n true) ls ss) (sym sized) ∙ wrote
    ∙ ap (λ n. synced_rows (replicate n true) (take count (drop first kd)) (take count (drop first rd))) sized
    ∙ ap (λ xs. synced_rows flags (take count (drop first xs)) (take count (drop first rd))) k
    ∙ ap (λ xs. synced_rows flags (take count (drop first ks)) (take count (drop first xs))) r in
    ap (λ xs. synced_rows ps xs rn) kn_is ∙ ap (λ xs. synced_rows ps (put_mid first count ks ls) xs) rn_is
    ∙ synced-put first count ps ks ls rs ss size rows fits l s marked same
