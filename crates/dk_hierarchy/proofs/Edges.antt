-- Through an edge a child's samples tell of partners.
use Rattle.std.specs.Prelude.{◌≡◌, ◌&&◌, ℕ, zero, suc, Bool, true, false, not, List, [], ◌∷◌, length, map, slice_index_or, Option, Some, None, option_and_then, option_map, refl}
use Rattle.std.specs.List.{list_all}
use Rattle.std.specs.Option.{option_map_or}
use Rattle.std.proofs.Common.{◌∙◌, ap, sym}
use Rattle.dk_base.specs.declared.kinds.VarId.{VarId}
use Rattle.dk_base.specs.declared.values.Value.{Value}
use Rattle.dk_base.specs.declared.values.Value.TheVariants as value
use Rattle.dk_instances.specs.Fits.{fit, is_whole, tuple_in, tuples_of}
use Rattle.dk_instances.proofs.Fitting.{count_of_tuples, fit_of_none}
use Rattle.dk_forms.specs.declared.states.State.TheVariants.{Empty}
use Rattle.dk_base.specs.Values.SameValues.{same_value}
use Rattle.dk_presence.specs.Patterns.{capped, count_of}
use Rattle.dk_meanings.specs.Meanings.{state_of}
use Rattle.dk_samples.specs.Samples.{is_present, value_in}
use Rattle.dk_hierarchy.specs.Edges.{AgreementThroughEdges, CountsThroughEdges, FitsThroughEdges, partner_at, partners_at, same_through}
use Rattle.dk_hierarchy.specs.Samples.{mapped_sample}

-- the value of a partner; without one it is missing
abbrev pub of_partner : List Value → Option VarId → Value
of_partner s partner = option_map_or (value_in s) partner value.Missing

pub index-map : {A B : Type 0} (f : A → B) (xs : List A) (i : ℕ) (d : A) → slice_index_or (map f xs) i (f d) ≡ f (slice_index_or xs i d)
index-map f [] i d = refl
index-map f (x ∷ xs) zero d = refl
index-map f (x ∷ xs) (suc i) d = index-map f xs i d

pub value-through : (partners : List (Option VarId)) (s : List Value) (v : VarId) → value_in (mapped_sample partners s) v ≡ of_partner s (partner_at partners v)
value-through partners s v = index-map (of_partner s) partners v.0 None

-- ---- tuples
-- the tuple is that of the partners, or isn't whole
abbrev IsThrough : List Value → Option (List VarId) → List Value → Type 0
IsThrough s None tuple = is_whole tuple ≡ false
IsThrough s (Some there) tuple = tuple ≡ tuple_in there s

and-false : (b : Bool) → b && false ≡ false
and-false true = refl
and-false false = refl

one-more : (s : List Value) (partner : Option VarId) (rest : Option (List VarId)) (tuple : List Value) → IsThrough s rest tuple
    → IsThrough s (option_and_then (λ w. option_map (λ ws. w ∷ ws) rest) partner) (of_partner s partner ∷ tuple)
one-more s None rest tuple through = refl
one-more s (Some w) None tuple through = ap (λ b. is_present (value_in s w) && b) through ∙ and-false (is_present (value_in s w))
one-more s (Some w) (Some there) tuple through = ap (λ t. value_in s w ∷ t) through

same-tuple : (s : List Value) (there : Option (List VarId)) (t u : List Value) → t ≡ u → IsThrough s there u → IsThrough s there t
same-tuple s None t u same through = ap is_whole same ∙ through
same-tuple s (Some there) t u same through = same ∙ through

tuple-through : (partners : List (Option VarId)) (s : List Value) (vars : List VarId) → IsThrough s (partners_at partners vars) (tuple_in vars (mapped_sample partners s))
tuple-through partners s [] = refl
tuple-through partners s (v ∷ vars) =
    same-tuple s (partners_at partners (v ∷ vars)) (tuple_in (v ∷ vars) (mapped_sample partners s)) (of_partner s (partner_at partners v) ∷ tuple_in vars (mapped_sample partners s))
    (ap (λ x. x ∷ tuple_in vars (mapped_sample partners s)) (value-through partners s v))
    (one-more s (partner_at partners v) (partners_at partners vars) (tuple_in vars (mapped_sample partners s)) (tuple-through partners s vars))

by-partners : (partners : List (Option VarId)) (vars : List VarId) (there : Option (List VarId)) → ((s : List Value) → IsThrough s there (tuple_in vars (mapped_sample partners s)))
    → (samples : List (List Value)) → tuples_of vars (map (mapped_sample partners) samples) ≡ option_map_or (λ ws. tuples_of ws samples) there []
by-partners partners vars None through [] = refl
by-partners partners vars None through (s ∷ samples) = rw (through s) (by-partners partners vars None through samples)
by-partners partners vars (Some there) through [] = refl
by-partners partners vars (Some there) through (s ∷ samples) = rw (through s, by-partners partners vars (Some there) through samples) refl

tuples-through : (partners : List (Option VarId)) (vars : List VarId) (samples : List (List Value))
    → tuples_of vars (map (mapped_sample partners) samples) ≡ option_map_or (λ there. tuples_of there samples) (partners_at partners vars) []
tuples-through partners vars samples = by-partners partners vars (partners_at partners vars) (λ s. tuple-through partners s vars) samples

-- ---- fits and counts
of-either : {A B C : Type 0} (f : B → C) (g : A → B) (o : Option A) (d : B) (e : C) → f d ≡ e → f (option_map_or g o d) ≡ option_map_or (λ x. f (g x)) o e
of-either f g None d e same = same
of-either f g (Some x) d e same = refl

pub fits_through : FitsThroughEdges
unfolding fit
fits_through row is partners vars samples =
    ap (state_of row) (tuples-through partners vars samples)
    ∙ of-either (state_of row) (λ there. tuples_of there samples) (partners_at partners vars) [] Empty (fit_of_none row is [])

same-counts : (o : Option (List VarId)) (samples : List (List Value))
    → option_map_or (λ there. capped (length (tuples_of there samples))) o 0 ≡ option_map_or (λ there. count_of there samples) o 0
same-counts None samples = refl
same-counts (Some there) samples = sym (count_of_tuples there samples)

pub counts : CountsThroughEdges
counts partners vars samples =
    count_of_tuples vars (map (mapped_sample partners) samples)
    ∙ ap (λ ts. capped (length ts)) (tuples-through partners vars samples)
    ∙ of-either (λ ts. capped (length ts)) (λ there. tuples_of there samples) (partners_at partners vars) [] 0 refl
    ∙ same-counts (partners_at partners vars) samples

-- ---- agreement
missing-right : (x : Value) → same_value x value.Missing ≡ not (is_present x)
missing-right value.Missing = refl
missing-right (value.Bool b) = refl
missing-right (value.Int z) = refl
missing-right (value.Hash n) = refl
missing-right (value.Str t) = refl
missing-right (value.BoolSeq bs) = refl
missing-right (value.IntSeq zs) = refl
missing-right (value.HashSeq ns) = refl
missing-right (value.StrSeq ts) = refl

missing-left : (x : Value) → same_value value.Missing x ≡ not (is_present x)
missing-left value.Missing = refl
missing-left (value.Bool b) = refl
missing-left (value.Int z) = refl
missing-left (value.Hash n) = refl
missing-left (value.Str t) = refl
missing-left (value.BoolSeq bs) = refl
missing-left (value.IntSeq zs) = refl
missing-left (value.HashSeq ns) = refl
missing-left (value.StrSeq ts) = refl

each-same : (v w : Option VarId) (samples : List (List Value)) → list_all (λ s. same_value (of_partner s v) (of_partner s w)) samples ≡ same_through samples v w
each-same None None [] = refl
each-same None None (s ∷ samples) = each-same None None samples
each-same (Some v) None [] = refl
each-same (Some v) None (s ∷ samples) = rw (missing-right (value_in s v), each-same (Some v) None samples) refl
each-same None (Some w) [] = refl
each-same None (Some w) (s ∷ samples) = rw (missing-left (value_in s w), each-same None (Some w) samples) refl
each-same (Some v) (Some w) samples = refl

pub agreement : AgreementThroughEdges
agreement partners v w [] = each-same (partner_at partners v) (partner_at partners w) []
agreement partners v w (s ∷ samples) =
    ap (λ b. b && list_all (λ s. same_value (value_in s v) (value_in s w)) (map (mapped_sample partners) samples)) (alike s)
    ∙ ap (λ b. same_value (of_partner s (partner_at partners v)) (of_partner s (partner_at partners w)) && b) (all samples)
    ∙ each-same (partner_at partners v) (partner_at partners w) (s ∷ samples)
  where
    alike : (s : List Value) → same_value (value_in (mapped_sample partners s) v) (value_in (mapped_sample partners s) w) ≡ same_value (of_partner s (partner_at partners v)) (of_partner s (partner_at partners w))
    alike s = rw (value-through partners s v, value-through partners s w) refl

    all : (samples : List (List Value)) → list_all (λ s. same_value (value_in s v) (value_in s w)) (map (mapped_sample partners) samples)
        ≡ list_all (λ s. same_value (of_partner s (partner_at partners v)) (of_partner s (partner_at partners w))) samples
    all [] = refl
    all (s ∷ samples) = rw (alike s, all samples) refl
