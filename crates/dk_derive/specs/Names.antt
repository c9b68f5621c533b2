-- The names of derived variables, and what they may be compared with.
use Rattle.std.specs.Prelude.{ℕ, ◌-◌, ◌++◌, negsuc, nat_eq, Bool, List, codes, length, take, if◌then◌else◌}
use Rattle.std.specs.List.{ends_with}
use Rattle.dk_base.specs.declared.kinds.Compar.{Compar}
use Rattle.dk_base.specs.declared.kinds.Form.{Form}
use Rattle.dk_base.specs.declared.kinds.Form.TheVariants as form
use Rattle.dk_points.specs.Vars.{orig_name}

-- the name without its final `[..]` or, where it has none, without its final `[]`
unfoldable pub stem : List ℕ → List ℕ
stem name =
    if ends_with nat_eq name (codes "[..]") then take (length name - 4) name
    else if ends_with nat_eq name (codes "[]") then take (length name - 2) name
    else name

-- the text of a form over the plain names of a sequence and of an index
unfoldable pub text_over : List ℕ → List ℕ → Form → List ℕ
text_over s i form.Declared = s
text_over s i form.Orig = s
text_over s i (form.Size v) = codes "size(" ++ s ++ codes ")"
text_over s i (form.First v) = stem s ++ codes "[0]"
text_over s i (form.Last v) = stem s ++ codes "[-1]"
text_over s i (form.At v w) = stem s ++ codes "[" ++ i ++ codes "]"
text_over s i (form.Upto v w) = stem s ++ codes "[0.." ++ i ++ codes "]"
text_over s i (form.Before v w) = stem s ++ codes "[0.." ++ i ++ codes "-1]"
text_over s i (form.Since v w) = stem s ++ codes "[" ++ i ++ codes "..]"
text_over s i (form.After v w) = stem s ++ codes "[" ++ i ++ codes "+1..]"

-- the name, which over orig variables is orig(T) for the text T
abbrev pub name_over : Bool → List ℕ → List ℕ → Form → List ℕ
name_over orig s i f = if orig then orig_name (text_over s i f) else text_over s i f

-- the comparability of a form over a sequence: a size has that of the sequence's indices, an element that of its elements, a slice its own
abbrev pub compar_over : Compar → Form → Compar
compar_over s (form.Size v) = record { elem = s.index; index = negsuc 0 }
compar_over s (form.First v) = record { elem = s.elem; index = negsuc 0 }
compar_over s (form.Last v) = record { elem = s.elem; index = negsuc 0 }
compar_over s (form.At v w) = record { elem = s.elem; index = negsuc 0 }
compar_over s f = s
