-- The last line of a trace, as it is read (docs/FORMATS.md, "Traces").
use Rattle.std.specs.Prelude.{ℕ, List, [], ◌∷◌, codes, Option}
use Rattle.th_lines.specs.Fields.{number_last}
use Rattle.th_traces.specs.Tables.{by_table}

-- the number of entries that the last line says
abbrev pub end_of : List ℕ → Option ℕ
end_of line = by_table ((codes "END", number_last (λ count. count)) ∷ []) line
