-- Lists of values that texts write.
use Rattle.std.specs.Prelude.{All, [], ◌∷◌, ◌++◌, List}
use Rattle.std.proofs.Common.{subst, sym}
use Rattle.std.proofs.lemmas.List.{map_push}
use Rattle.std.proofs.lemmas.List.Elements.{All-push}
use Rattle.dk_base.specs.Values.{value_of, values_of}
use Rattle.dk_base.specs.Values.Spelling.{IsWritten}
use Rattle.dk_base.specs.declared.values.View.{View}

-- one more of them
pub written_push : (views : List View) (view : View) → All IsWritten (values_of views) → IsWritten (value_of view) → All IsWritten (values_of (views ++ view ∷ []))
written_push views view are is =
    subst (All IsWritten) (sym (map_push value_of views view)) (All-push IsWritten (values_of views) (value_of view) are is)
