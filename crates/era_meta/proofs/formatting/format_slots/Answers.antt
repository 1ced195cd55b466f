use Rattle.std.proofs.Common.{◌≡◌, ℕ, length, refl, sym, ap, ◌∙◌, subst, arith}
use Rattle.era_layout.specs.Root.{fields_of, pages_of}
use Rattle.era_model.specs.Marks.{blocks_of_marks}
use Rattle.era_meta.specs.Areas.{page_count}
use Rattle.era_meta.specs.Stored.{HasBlocks}
use Rattle.era_meta.proofs.AreasLists.{length-numbers}
use Rattle.era_meta.proofs.Ends.{ok_map}
use Rattle.era_meta.proofs.FirstParts.{first-fit, first-stands, first-stores}
use Rattle.era_meta.proofs.formatting.format_slots.Goals as goal

pub returns-clause-ok : goal.returns-clause-ok
returns-clause-ok g c = ok_map c.store_first.result (λ done.
    let slots = c.store_first.new.slots in let parts = c.args.parts.now in let m = parts.marks in
    let count : length (pages_of (fields_of parts.root)) ≡ page_count (blocks_of_marks m) (length m.archive) = ap length c.requires.parts.pages ∙ length-numbers 3 _ in (
      record {
        ready = record {
          standing = record {
            fit = first-fit g.D.Disk slots parts c.requires.parts (subst (λ (n : ℕ). HasBlocks (fields_of parts.root) n) (sym c.store_first.ensures.disk.size) c.requires.room);
            stands = λ told. first-stands slots parts (g.D.Disk.history slots.disk).now c.requires.parts.none (done.2 told);
          };
          stored = refl;
          below = omega (arith, done.0);
        };
        marks = refl;
        none = c.requires.parts.none;
        number = done.0;
        pages = c.requires.parts.pages;
        stored = λ told. first-stores slots parts (g.D.Disk.history slots.disk).now c.requires.parts.none (done.2 told);
        alone = λ told. (done.2 told).alone;
      },
      λ told. let calls = done.1 told in omega (arith, calls, count),
    )) c.store_first.ensures.ok
