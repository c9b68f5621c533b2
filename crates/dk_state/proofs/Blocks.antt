-- What is saved of the points, one after another.
use Rattle.std.specs.Prelude.{◌≡◌, ◌<◌, ◌≤◌, ◌^◌, ◌+◌, ◌==◌, ◌++◌, ◌∷◌, ◌⊎◌, [], ℕ, zero, suc, Bool, true, false, IsTrue, List, Option, Some, None, Err, codes, flat_map, is_some, length, map, nat_eq, option_and_then, option_map, slice_get, refl, if◌then◌else◌}
use Rattle.std.specs.Fmt.{decimal}
use Rattle.std.specs.List.{enumerate_from, starts_with}
use Rattle.std.proofs.Common.{◌∙◌, ap, append_assoc, arith, inl, inr, subst, sym}
use Rattle.std.proofs.lemmas.Bool.{false≢true, ne_eqb}
use Rattle.dk_engine.specs.Reading.Levels.{Whole}
use Rattle.dk_engine.specs.Saved.{parts_of}
use Rattle.dk_engine.specs.declared.kept.Kept.{Kept}
use Rattle.dk_engine.specs.declared.saved.parts.Parts.{Parts}
use Rattle.dk_graph.proofs.Places.{some-injective}
use Rattle.dk_points.specs.Table.{Point, decl_if_declared}
use Rattle.dk_state.specs.Kept.{behind_samples, parts_lines}
use Rattle.dk_state.specs.Lines.{behind_blank, state_line}
use Rattle.dk_state.specs.Loading.{IsLoadedAs, Loads, saved_blocks}
use Rattle.dk_state.specs.Reading.{BeginsWith, ends_field}
use Rattle.dk_state.specs.Saved.{kept_lines}
use Rattle.dk_state.specs.Spelling.{IsSavedAt, saved_lines}
use Rattle.dk_template.specs.declared.grammar.Grammar.{Grammar}
use Rattle.dk_state.specs.declared.loading.LoadFault.{LoadFault}
use Rattle.dk_state.specs.declared.loading.LoadFault.TheVariants.{BadState, NoMemory}
use Rattle.dk_state.proofs.Onto.{line_onto}

-- a fault that is passed on
pub loads_err : {X Y : Type 0} (P : X → Type 0) (Q : Y → Type 0) (e : LoadFault) → Loads {X = X} (Err e) P → Loads {X = Y} (Err e) Q
loads_err P Q BadState h = h
loads_err P Q NoMemory h = h

-- a point with samples comes first
pub block_first : (p : ℕ) (parts : Parts) (more : List (Option Parts))
    → saved_blocks p (Some parts ∷ more) ≡ codes "samples" ++ (behind_blank (decimal p) ++ (behind_blank (decimal parts.samples) ++ 10 ∷ (behind_samples parts ++ saved_blocks (p + 1) more)))
block_first p parts more =
    let later = flat_map saved_lines (enumerate_from (p + 1) more) in
    let head = state_line "samples" (decimal p ∷ decimal parts.samples ∷ []) in
    append_assoc (head ++ behind_samples parts) later (codes "end-state\n")
    ∙ append_assoc head (behind_samples parts) (saved_blocks (p + 1) more)
    ∙ line_onto (codes "samples") (decimal p ∷ decimal parts.samples ∷ []) (behind_samples parts ++ saved_blocks (p + 1) more)

-- an earlier point doesn't come
pub other_comes : (comes : Bool) (p q : ℕ) (more : List (Option Parts)) → p < q → q + length more < 2 ^ 32
    → ((r : ℕ) (rest : List ℕ) → r < 2 ^ 32 → BeginsWith ends_field rest → saved_blocks q more ≡ codes "samples" ++ (behind_blank (decimal r) ++ rest) → comes ≡ (r == p))
    → (starts_with nat_eq (saved_blocks q more) (codes "samples ") ≡ false → comes ≡ false) → comes ≡ false
other_comes comes p q [] less small at none = none refl
other_comes comes p q (None ∷ more) less small at none = other_comes comes p (q + 1) more (omega (arith, less)) (omega (arith, small)) at none
other_comes comes p q (Some parts ∷ more) less small at none =
    at q (behind_blank (decimal parts.samples) ++ 10 ∷ (behind_samples parts ++ saved_blocks (q + 1) more)) (omega (arith, small)) refl (block_first q parts more)
    ∙ ne_eqb q p (λ e. absurd (omega (arith, e, less)))

-- declarations stand in front of them
pub no_point : (p : ℕ) (saved : List (Option Parts)) → starts_with nat_eq (saved_blocks p saved) (codes "point ") ≡ false
no_point p [] = refl
no_point p (None ∷ saved) = no_point (p + 1) saved
no_point p (Some parts ∷ saved) = refl

-- an implicit exit isn't declared
pub implicit_undeclared : (o : Option Point) → option_map (λ (q : Point). q.is_implicit) o ≡ Some true → IsTrue (is_some (option_and_then decl_if_declared o)) → ⊥
implicit_undeclared None e declared = absurd (false≢true declared)
implicit_undeclared (Some q) e declared =
    let made : q.is_implicit ≡ true = cc in
    absurd (false≢true (ap (λ b. is_some (if b then None else Some q.decl)) (sym made) ∙ declared))

-- an engine at a place is one of the first, or the last
pub got_push : (xs : List Whole) (x : Whole) (i : ℕ) (y : Whole) → slice_get (xs ++ x ∷ []) i ≡ Some y → (slice_get xs i ≡ Some y) ⊎ ((i ≡ length xs) × (x ≡ y))
got_push [] x zero y at = inr (refl, some-injective at)
got_push [] x (suc i) y at = absurd (cc)
got_push (z ∷ xs) x zero y at = inl at
got_push (z ∷ xs) x (suc i) y at = elim (got_push xs x i y at) as (λ _. (slice_get xs i ≡ Some y) ⊎ ((suc i ≡ suc (length xs)) × (x ≡ y))) [
  | inl here ↦ inl here
  | inr last ↦ inr (ap suc last.0, last.1)
]

-- what an engine saves to, against what is saved for its point
lines_alike : (p : ℕ) (kept : Kept) (parts : Parts) → 1 ≤ parts.samples → parts_of kept ≡ parts → kept_lines (p, kept) ≡ parts_lines p parts
lines_alike p kept parts some same =
    let samples : kept.samples ≡ parts.samples = ap (λ (q : Parts). q.samples) same in
    rw (ne_eqb kept.samples 0 (λ e. absurd (omega (arith, e, samples, some)))) (ap (parts_lines p) same)

pub one_alike : (g : Grammar) (ps : List Point) (p : ℕ) (own : Option Parts) (engine : Whole) → IsSavedAt g ps p own → IsLoadedAs g ps p own engine
    → kept_lines (p, engine.kept) ≡ saved_lines (p, own)
one_alike g ps p None engine at is = let none : engine.kept.samples ≡ 0 = omega (arith, is.number) in rw none refl
one_alike g ps p (Some parts) engine at is = lines_alike p engine.kept parts at.meet.some is.0

abbrev AreAlike : ℕ → List (Option Parts) → List Whole → Type 0
AreAlike n saved engines = (p : ℕ) (own : Option Parts) (engine : Whole) → slice_get saved p ≡ Some own → slice_get engines p ≡ Some engine → kept_lines (n + p, engine.kept) ≡ saved_lines (n + p, own)

-- engines save to what is saved for their points
pub all_alike : (n : ℕ) (saved : List (Option Parts)) (engines : List Whole) → length engines ≡ length saved → AreAlike n saved engines
    → flat_map kept_lines (enumerate_from n (map (λ (e : Whole). e.kept) engines)) ≡ flat_map saved_lines (enumerate_from n saved)
all_alike n [] [] long each = refl
all_alike n [] (e ∷ engines) long each = absurd (omega (arith, long))
all_alike n (own ∷ saved) [] long each = absurd (omega (arith, long))
all_alike n (own ∷ saved) (e ∷ engines) long each =
    let here : kept_lines (n, e.kept) ≡ saved_lines (n, own) = subst (λ m. kept_lines (m, e.kept) ≡ saved_lines (m, own)) (add_zero n) (each 0 own e refl refl) in
    let later = all_alike (n + 1) saved engines (omega (arith, long))
    (λ p other engine there got. subst (λ m. kept_lines (m, engine.kept) ≡ saved_lines (m, other)) (shifted n p) (each (suc p) other engine there got)) in
    λ i. here i ++ later i
  where
    add_zero : (n : ℕ) → n + 0 ≡ n
    add_zero n = omega arith

    shifted : (n p : ℕ) → n + suc p ≡ n + 1 + p
    shifted n p = omega arith
