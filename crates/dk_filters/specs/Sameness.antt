-- States that are the same.
use Rattle.std.specs.Prelude.{◌&&◌, ◌==◌, Bool, true, false, bytes_eq}
use Rattle.std.specs.Bool.{beq}
use Rattle.std.specs.Cmp.Lexicographic.{pointwise}
use Rattle.std.specs.Ordering.{int_eq}
use Rattle.dk_forms.specs.declared.states.State.{State}
use Rattle.dk_forms.specs.declared.states.State.TheVariants as state

abbrev pub same_state : State → State → Bool
same_state state.Empty state.Empty = true
same_state state.Broken state.Broken = true
same_state state.Holds state.Holds = true
same_state (state.Least k) (state.Least l) = int_eq k l
same_state (state.Greatest k) (state.Greatest l) = int_eq k l
same_state (state.Ints ks) (state.Ints ls) = pointwise int_eq ks ls
same_state (state.Truth b) (state.Truth c) = beq b c
same_state (state.Code h) (state.Code i) = h == i
same_state (state.Texts ts) (state.Texts us) = pointwise bytes_eq ts us
same_state (state.One v) (state.One w) = int_eq v w
same_state (state.Modulus m r) (state.Modulus n s) = m == n && r == s
same_state (state.Spot x y) (state.Spot u v) = int_eq x u && int_eq y v
same_state (state.Straight a b c) (state.Straight d e f) = int_eq a d && (int_eq b e && int_eq c f)
same_state (state.Span x1 y1 z1 x2 y2 z2) (state.Span u1 v1 w1 u2 v2 w2) =
    int_eq x1 u1 && (int_eq y1 v1 && (int_eq z1 w1 && (int_eq x2 u2 && (int_eq y2 v2 && int_eq z2 w2))))
same_state (state.Plane a b c d) (state.Plane e f g h) = int_eq a e && (int_eq b f && (int_eq c g && int_eq d h))
same_state (state.Offset k) (state.Offset l) = int_eq k l
same_state _ _ = false
