-- Stripes that are begun over parts one after the other, and the content that they have then.
use Rattle.std.proofs.Common.{◌≡◌, ℕ, ◌+◌, ◌-◌, ◌*◌, ◌<◌, ◌≤◌, Bool, true, List, [], ◌∷◌, ◌++◌, length, map, min, Option, Some, None, slice_get, refl, sym, ap, ◌∙◌, subst, arith, inl, inr}
use Rattle.std.specs.List.{concat}
use Rattle.std.specs.Prelude.{slice_index, unwrap_or, if◌then◌else◌}
use Rattle.std.proofs.lemmas.List.{length-append, length-map}
use Rattle.std.proofs.lemmas.Option.{slice_get_within}
use Rattle.era_base.specs.CrashModel.{IsClean, State}
use Rattle.era_base.specs.Geometry.{blocks_of}
use Rattle.era_base.specs.declared.disk.Disk.{Ghosts}
use Rattle.era_base.specs.declared.geometry.Geometry.{Geometry}
use Rattle.era_gate.specs.Calls.{StripeToken}
use Rattle.era_model.specs.History.{contents_of, known_bytes}
use Rattle.era_model.specs.Writes.{block_bytes}
use Rattle.era_model.specs.declared.history.Happening.TheVariants.{Opened}
use Rattle.era_model.specs.declared.opening.Opening.{Opening}
use Rattle.era_notes.specs.Parts.{HoldsContent, IsIn, Part, bytes_in, offset_in}
use Rattle.era_notes.proofs.Offsets.{byte-at, byte-on_disk, byte-within}
use Rattle.era_stripe.specs.Stripes.{IsPartOf, part_of}
use Rattle.era_stripe.specs.declared.stripe.Stripe.{Stripe}
use Rattle.era_session.specs.Openings.{AreParts, AreStripesOver, IsStripeOver, blocks_at_part, origin_blocks, origin_bytes, part_blocks, reads_as}
use Rattle.era_session.proofs.ListsInOrder.{mapped, mapped-at, push-cases}
use Rattle.era_session.proofs.OriginBytes.{AreWide, block-at, whole-before}
use Rattle.era_session.proofs.SyncedParts.{IsWholeDisk}

-- none so far
pub over-none : {D : Type 0} (disk : Ghosts D) (geometry : Geometry) (each : ℕ) (parts : List D) (seats : List StripeToken) (stripes : List (Stripe D)) → stripes ≡ [] → AreStripesOver disk geometry each 0 parts seats stripes
over-none {D} disk geometry each parts seats stripes none = record {
  count = ap length none;
  stripe = λ k part seat one at at' at''. absurd (let low = slice_get_within stripes k one at'' in omega (arith, low, ap length none));
}

same-some : {A : Type 0} (o : Option A) (x z : A) → o ≡ Some x → o ≡ Some z → x ≡ z
same-some {A} o x z one two = ap (λ (o : Option A). unwrap_or o x) (sym one ∙ two)

-- one more
pub over-next : {D : Type 0} (disk : Ghosts D) (geometry : Geometry) (each k : ℕ) (parts : List D) (seats : List StripeToken) (old new : List (Stripe D)) (part : D) (seat : StripeToken) (one : Stripe D)
    → AreStripesOver disk geometry each k parts seats old → slice_get parts k ≡ Some part → slice_get seats k ≡ Some seat → IsStripeOver disk geometry each k part seat one → new ≡ old ++ one ∷ []
    → AreStripesOver disk geometry each (k + 1) parts seats new
over-next {D} disk geometry each k parts seats old new part seat one over found behind is pushed = record {
  count = ap length pushed ∙ length-append old (one ∷ []) ∙ omega (arith, over.count);
  stripe = λ j p s z at at' at''. elim (push-cases old one z j (subst (λ (all : List (Stripe D)). slice_get all j ≡ Some z) pushed at'')) [
    | inl there ↦ over.stripe j p s z at at' there
    | inr last ↦
        let here : j ≡ k = last.0 ∙ over.count in
        let same_part : part ≡ p = same-some (slice_get parts k) part p found (subst (λ (n : ℕ). slice_get parts n ≡ Some p) here at) in
        let same_seat : seat ≡ s = same-some (slice_get seats k) seat s behind (subst (λ (n : ℕ). slice_get seats n ≡ Some s) here at') in
        subst (λ (n : ℕ). IsStripeOver disk geometry each n p s z) (sym here)
        (subst (λ (t : StripeToken). IsStripeOver disk geometry each k p t z) same_seat
        (subst (λ (d : D). IsStripeOver disk geometry each k d seat z) same_part
        (subst (λ (t : Stripe D). IsStripeOver disk geometry each k part seat t) (sym last.1) is)))
  ];
}

-- a part whose blocks read so, with nothing pending, holds the content of an opening
part-holds : (opening : Opening) (part : Part) (state : State) → ((block : ℕ) → IsIn part block → block_bytes opening.geometry.block_sectors (contents_of opening) block ≡ bytes_in part state.seen block)
    → IsClean state → HoldsContent part (Opened opening ∷ []) state
part-holds opening part state same clean = record {
  sizes = λ block is. ap length (same block is);
  bytes = λ block offset is within free.
      let there : offset < length (bytes_in part state.seen block) = subst (λ (b : List ℕ). offset < length b) (same block is) within in
      record {
        same = sym (byte-at part state.seen block offset (byte-within part state.seen block offset there)) ∙ ap (λ (b : List ℕ). slice_index b offset) (sym (same block is));
        clean = clean (offset_in part block offset) (byte-on_disk part state.seen block offset there);
      };
}

-- the sectors of a range of blocks that isn't the last one
full-sectors : (sectors size blocks each first : ℕ) → 0 < size → first + each < blocks_of sectors size → blocks ≡ min each (blocks_of sectors size - first)
    → min (blocks * size) (sectors - first * size) ≡ each * size
full-sectors sectors size blocks each first some more is =
    let room = whole-before sectors size (first + each) some more in
    let full : blocks ≡ each = omega (arith, is, more) in
    let flat : (first + each) * size ≡ first * size + each * size = omega arith in
    ap (λ n. min (n * size) (sectors - first * size)) full ∙ omega (arith, room, flat)

-- each part but the last has all bytes of its blocks
parts-wide : {D : Type 0} (disk : Ghosts D) (geometry : Geometry) (parts : List D) → AreParts disk geometry parts → ((part : D) → IsWholeDisk disk part) → disk.tells ≡ true
    → AreWide (part_blocks geometry (length parts) * (geometry.block_sectors * 512)) (map (reads_as disk) parts)
parts-wide {D} disk geometry parts are whole told j one more at =
    let from = mapped (reads_as disk) parts j one at in
    let part = from.0 in
    let each = part_blocks geometry (length parts) in
    let size = geometry.block_sectors in
    let some : 0 < size = omega (arith, geometry.block_size.least) in
    let count = length-map parts (reads_as disk) in
    let next : (j + 1) * each < origin_blocks geometry = are.split.some (j + 1) (omega (arith, more, count)) in
    let flat : (j + 1) * each ≡ j * each + each = omega arith in
    let sectors : disk.sectors part ≡ each * size
    = are.sizes j part from.1 ∙ full-sectors geometry.sectors size (blocks_at_part geometry each j) each (j * each) some (omega (arith, next, flat)) refl in
    let bytes : length (reads_as disk part) ≡ disk.sectors part * 512 = (whole part told).bytes in
    let wide : each * size * 512 ≡ each * (size * 512) = omega arith in
    ap length from.2 ∙ bytes ∙ ap (λ n. n * 512) sectors ∙ wide

-- a part's blocks are those of the origin
pub part-blocks-are : {D : Type 0} (disk : Ghosts D) (geometry : Geometry) (parts : List D) (k block : ℕ) (part : D) → AreParts disk geometry parts → ((part : D) → IsWholeDisk disk part) → disk.tells ≡ true
    → slice_get parts k ≡ Some part → k * part_blocks geometry (length parts) ≤ block → block < k * part_blocks geometry (length parts) + part_blocks geometry (length parts)
    → block_bytes geometry.block_sectors (concat (map (reads_as disk) parts)) block ≡ block_bytes geometry.block_sectors (reads_as disk part) (block - k * part_blocks geometry (length parts))
part-blocks-are disk geometry parts k block part are whole told at low high =
    block-at geometry.block_sectors (part_blocks geometry (length parts)) k block (map (reads_as disk) parts) (reads_as disk part)
    (parts-wide disk geometry parts are whole told) (mapped-at (reads_as disk) parts k part at) low (λ more. high)

-- the contents of an opening over parts that tell
pub contents-are : {D : Type 0} (disk : Ghosts D) (parts : List D) (opening : Opening) → opening.contents.bytes ≡ origin_bytes disk parts → disk.tells ≡ true → contents_of opening ≡ concat (map (reads_as disk) parts)
contents-are disk parts opening is told =
    ap known_bytes is ∙ ap (λ (tells : Bool). known_bytes (if tells then Some (concat (map (reads_as disk) parts)) else None)) told

part-is : {D : Type 0} (stripe : Stripe D) (first blocks size : ℕ) → stripe.first_block ≡ first → stripe.blocks ≡ blocks → stripe.geometry.block_sectors ≡ size
    → part_of stripe ≡ record { first = first; blocks = blocks; size = size }
part-is stripe first blocks size is is' is'' = rw (is, is', is'') refl

-- a stripe over its part has the content of the opening
pub stripe-holds : {D : Type 0} (disk : Ghosts D) (geometry : Geometry) (parts : List D) (k : ℕ) (part : D) (seat : StripeToken) (stripe : Stripe D) (opening : Opening)
    → AreParts disk geometry parts → ((part : D) → IsWholeDisk disk part) → disk.tells ≡ true → slice_get parts k ≡ Some part → IsClean (disk.history part).now
    → IsStripeOver disk geometry (part_blocks geometry (length parts)) k part seat stripe → opening.geometry.block_sectors ≡ geometry.block_sectors → opening.contents.bytes ≡ origin_bytes disk parts
    → HoldsContent (part_of stripe) (Opened opening ∷ []) (disk.history part).now
stripe-holds {D} disk geometry parts k part seat stripe opening are whole told at clean over size contents =
    let each = part_blocks geometry (length parts) in
    let own : Part = record { first = k * each; blocks = blocks_at_part geometry each k; size = geometry.block_sectors } in
    let is : part_of stripe ≡ own = part-is stripe (k * each) (blocks_at_part geometry each k) geometry.block_sectors over.first over.blocks (ap (λ (g : Geometry). g.block_sectors) over.geometry) in
    subst (λ (p : Part). HoldsContent p (Opened opening ∷ []) (disk.history part).now) (sym is)
    (part-holds opening own (disk.history part).now
    (λ block inside.
    ap (λ n. block_bytes n (contents_of opening) block) size
    ∙ ap (λ (bytes : List ℕ). block_bytes geometry.block_sectors bytes block) (contents-are disk parts opening contents told)
    ∙ part-blocks-are disk geometry parts k block part are whole told at inside.low (below (k * each) each (origin_blocks geometry) block inside.high))
    clean)
  where
    below : (first each all block : ℕ) → block < first + min each (all - first) → block < first + each
    below first each all block high = omega (arith, high)

-- and is a part of the opening's origin
pub stripe-part : {D : Type 0} (disk : Ghosts D) (geometry : Geometry) (parts : List D) (k : ℕ) (part : D) (seat : StripeToken) (stripe : Stripe D) (opening : Opening)
    → AreParts disk geometry parts → slice_get parts k ≡ Some part → IsStripeOver disk geometry (part_blocks geometry (length parts)) k part seat stripe
    → opening.geometry.sectors ≡ geometry.sectors → opening.geometry.block_sectors ≡ geometry.block_sectors → IsPartOf opening geometry (part_of stripe)
stripe-part disk geometry parts k part seat stripe opening are at over sectors size =
    let each = part_blocks geometry (length parts) in
    record {
      sectors = sectors;
      block_sectors = size;
      size = ap (λ (g : Geometry). g.block_sectors) over.geometry;
      blocks = rw (over.first, over.blocks) (within (k * each) each (origin_blocks geometry) (are.split.some k (slice_get_within parts k part at)));
    }
  where
    within : (first each all : ℕ) → first < all → first + min each (all - first) ≤ all
    within first each all low = omega (arith, low)
