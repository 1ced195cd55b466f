-- A part of a list of bytes, and a list of bytes over which others were written.
use Rattle.std.specs.Prelude.{ℕ, ◌+◌, List, ◌++◌, length, take, drop}

-- So many bytes from an offset on.
abbrev pub part : ℕ → ℕ → List ℕ → List ℕ
part at count bytes = take count (drop at bytes)

-- The old bytes, with others written over them at an offset.
abbrev pub splice : List ℕ → ℕ → List ℕ → List ℕ
splice old at bytes = take at old ++ bytes ++ drop (at + length bytes) old
