use Rattle.std.proofs.Common.{◌≡◌, sym, arith}
use Rattle.era_layout.specs.Root.{RootFields, IsValidRoot, root_bytes}
use Rattle.era_layout.specs.Numbers.{AreBytes}
use Rattle.era_layout.specs.Damage.{Passes}
use Rattle.era_layout.proofs.FirstKind.{Decoded, decoded_has, decoded_is, refused_by}
use Rattle.era_layout.proofs.RootRead.{bytes_again, is_valid}
use Rattle.era_layout.proofs.RootWritten.{stands, read_back, none_applies}
use Rattle.era_layout.proofs.decoder.decode_root.Goals as goal

decoded : (c : goal.After-read_tested) → Decoded c.args.bytes.now (Passes c.args.bytes.now) c.check_root.result c.read_tested.result
decoded c = record { none = c.check_root.ensures.none; first = c.check_root.ensures.first; read = c.read_tested.ensures }

pub returns-clause-ok : goal.returns-clause-ok
returns-clause-ok c =
    let bytes = c.args.bytes.now in
    let fits : AreBytes bytes = λ i. omega (arith, c.type_inv.bytes i) in
    decoded_has bytes (Passes bytes) (λ (root : RootFields). IsValidRoot root × (root_bytes root ≡ bytes)) c.check_root.result c.read_tested.result
    (λ none. (is_valid bytes fits none, bytes_again bytes c.requires fits none)) (decoded c)

pub returns-clause-again : goal.returns-clause-again
returns-clause-again c = λ root valid is.
    let bytes = c.args.bytes.now in
    let s = stands root bytes _ valid (sym is) in
    decoded_is bytes (Passes bytes) root c.check_root.result c.read_tested.result (none_applies root bytes valid s) (read_back root bytes valid s) (decoded c)

pub returns-clause-refused : goal.returns-clause-refused
returns-clause-refused c = refused_by c.args.bytes.now (Passes c.args.bytes.now) c.check_root.result c.read_tested.result (decoded c)
