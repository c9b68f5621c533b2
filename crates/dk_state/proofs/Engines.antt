-- The lines of what engines keep, one engine after another.
use Rattle.std.specs.Prelude.{◌≡◌, ◌<◌, ◌+◌, ◌++◌, ◌∷◌, [], ℕ, List, flat_map, length, map, take}
use Rattle.std.specs.List.{enumerate_from}
use Rattle.std.proofs.Common.{◌∙◌, ap, arith, get_or, sym}
use Rattle.std.proofs.lemmas.List.{flat_map_more, length-map, length-take-le, map_push, take_more}
use Rattle.dk_engine.specs.Reading.Levels.{Whole}
use Rattle.dk_engine.specs.declared.kept.Kept.{Kept}
use Rattle.dk_state.specs.Saved.{kept_lines}

enumerate_push : {X : Type 0} (n : ℕ) (xs : List X) (x : X) → enumerate_from n (xs ++ x ∷ []) ≡ enumerate_from n xs ++ (n + length xs, x) ∷ []
enumerate_push n [] x = ap (λ m. (m, x) ∷ []) (omega arith)
enumerate_push n (y ∷ xs) x = ap (λ es. (n, y) ∷ es) (enumerate_push (n + 1) xs x ∙ ap (λ m. enumerate_from (n + 1) xs ++ (m, x) ∷ []) (omega arith))

-- what engines keep
abbrev pub kept_by : List Whole → List Kept
kept_by engines = map (λ (engine : Whole). engine.kept) engines

pub kept_more : (engines : List Whole) (i : ℕ) (engine : Whole) → i < length engines → engine ≡ get_or engines i engine
    → enumerate_from 0 (kept_by (take (i + 1) engines)) ≡ enumerate_from 0 (kept_by (take i engines)) ++ (i, engine.kept) ∷ []
kept_more engines i engine l here =
    let before = kept_by (take i engines) in
    ap (λ es. enumerate_from 0 (kept_by es)) (take_more engines i engine l ∙ ap (λ e. take i engines ++ e ∷ []) (sym here))
    ∙ ap (enumerate_from 0) (map_push (λ (e : Whole). e.kept) (take i engines) engine)
    ∙ enumerate_push 0 before engine.kept
    ∙ ap (λ n. enumerate_from 0 before ++ (n, engine.kept) ∷ []) (omega (arith, length-map (take i engines) (λ (e : Whole). e.kept), length-take-le i engines (omega arith)))

-- one engine more
pub engine_more : (engines : List Whole) (i : ℕ) (engine : Whole) (start text next : List ℕ) → i < length engines → engine ≡ get_or engines i engine
    → text ≡ start ++ flat_map kept_lines (enumerate_from 0 (kept_by (take i engines))) → next ≡ text ++ kept_lines (i, engine.kept)
    → next ≡ start ++ flat_map kept_lines (enumerate_from 0 (kept_by (take (i + 1) engines)))
engine_more engines i engine start text next l here so_far step =
    step ∙ ap (λ (t : List ℕ). t ++ kept_lines (i, engine.kept)) so_far
    ∙ flat_map_more kept_lines start (enumerate_from 0 (kept_by (take i engines))) (i, engine.kept)
    ∙ ap (λ es. start ++ flat_map kept_lines es) (sym (kept_more engines i engine l here))
