-- One partner after another, down an edge.
use Rattle.std.specs.Prelude.{◌≡◌, ◌<◌, ◌+◌, ◌++◌, ℕ, zero, suc, IfSome, List, [], ◌∷◌, length, map, refl, slice_index_or, take, Option, Some, None, option_map}
use Rattle.std.proofs.Common.{◌∙◌, ap, arith, get_or, inl, inr, sym}
use Rattle.std.proofs.lemmas.List.{map-append, take_more}
use Rattle.std.proofs.lemmas.Option.{slice_get_cases}
use Rattle.dk_base.specs.Shapes.{var}
use Rattle.dk_base.specs.declared.kinds.VarId.{VarId}
use Rattle.dk_derive.specs.Partners.{partner_with_derived}
use Rattle.dk_graph.specs.declared.nodes.Edge.{Edge}
use Rattle.dk_points.specs.Table.{Point}
use Rattle.dk_hierarchy.proofs.Mapped.{partner-at}
use Rattle.dk_hierarchy.specs.Edges.{partner_at}
use Rattle.dk_hierarchy.specs.Samples.{all_vars_of, partners_of}
use Rattle.dk_hierarchy.specs.Ways.{AreOf}

-- the partner that was found by its place
pub partner_is : (ps : List Point) (e : Edge) (v : VarId) (found : Option VarId) → v.0 < length (all_vars_of ps e.parent.0)
    → option_map (λ (u : VarId). u.0) found ≡ partner_with_derived ps e (all_vars_of ps e.parent.0) (all_vars_of ps e.child.0) v.0 → found ≡ partner_at (partners_of ps e) v
partner_is ps e v found within is = elim (slice_get_cases (all_vars_of ps e.parent.0) v.0).1 as (λ _. found ≡ partner_at (partners_of ps e) v) [
  | inl c ↦ again found ∙ (ap (option_map var) is ∙ sym (partner-at ps e v.0 c.0 c.2))
  | inr c ↦ absurd (omega (arith, within, c.0))
]
  where
    again : (o : Option VarId) → o ≡ option_map var (option_map (λ (u : VarId). u.0) o)
    again None = refl
    again (Some u) = refl

-- a partner in a list of such
pub of_place : (n : ℕ) (partners : List (Option VarId)) → AreOf n partners → (i : ℕ) (d : Option VarId) → i < length partners → IfSome (get_or partners i d) (λ v. v.0 < n)
of_place n partners are i d within = go (get_or partners i d) (same partners i within)
  where
    same : (xs : List (Option VarId)) (k : ℕ) → k < length xs → slice_index_or xs k None ≡ get_or xs k d
    same [] k l = absurd (omega (arith, l))
    same (x ∷ xs) zero l = refl
    same (x ∷ xs) (suc k) l = same xs k (omega (arith, l))

    go : (o : Option VarId) → slice_index_or partners i None ≡ o → IfSome o (λ v. v.0 < n)
    go None is = tt
    go (Some w) is = are (var i) w is

pub map_more : {A B : Type 0} (f : A → B) (xs : List A) (i : ℕ) (d : A) → i < length xs → map f (take i xs) ++ f (get_or xs i d) ∷ [] ≡ map f (take (i + 1) xs)
map_more f xs i d within = sym (ap (map f) (take_more xs i d within) ∙ map-append f (take i xs) (get_or xs i d ∷ []))
