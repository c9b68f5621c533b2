-- Which rows may want memory when they are judged.
use Rattle.std.specs.Prelude.{◌==◌, ◌∷◌, [], IsTrue}
use Rattle.std.specs.List.{list_any}
use Rattle.dk_template.specs.Numbers as number
use Rattle.dk_template.specs.declared.grammar.RowId.{RowId}

-- the rows over strings whose state, or that of a row that says more, is of texts, or whose strings may have to be laid out anew
abbrev pub MayWantMemoryWhenJudged : RowId → Type 0
MayWantMemoryWhenJudged row =
    IsTrue (list_any (λ r. row.0 == r)
    (number.one_of_str ∷ number.non_null_str ∷ number.elt_one_of_str
    ∷ number.elt_non_null_str ∷ number.member_str ∷ number.subset_str ∷ []))
