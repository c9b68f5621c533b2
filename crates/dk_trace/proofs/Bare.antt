-- Bare names.
use Rattle.std.proofs.Common.{◌≡◌, ◌≢◌, ◌<◌, ◌++◌, ◌∙◌, ℕ, true, List, [], ◌∷◌, length, get_or, nat_lt, refl, ap, arith, Option, None, Some}
use Rattle.std.specs.Option.{option_map_or}
use Rattle.std.proofs.lemmas.Bool.{and_parts}
use Rattle.std.proofs.lemmas.Bool.Decides.{nat_tests}
use Rattle.std.proofs.lemmas.List.Sums.{AllPass-from_list_all}
use Rattle.dk_base.specs.Names.{unescaped}
use Rattle.dk_base.proofs.Spellings.{plain}
use Rattle.dk_decl.specs.declared.decls.PointDecl.{PointDecl}
use Rattle.dk_decl.specs.declared.decls.VarDecl.{VarDecl}
use Rattle.dk_points.specs.Bare.{have_bare_names, is_bare_byte, is_bare_name}
use Rattle.dk_points.specs.Table.{Point, decl_at}
use Rattle.dk_trace.specs.Records.{var_decls_at}
use Rattle.dk_trace.specs.Whole.{IsCut}
use Rattle.dk_trace.proofs.Tidy.{tidy_plain}

above : (b : ℕ) → is_bare_byte b ≡ true → 32 < b
above b is = grind (arith, nat_tests)

other : (b : ℕ) → is_bare_byte b ≡ true → b ≢ 92
other b is = grind (arith, nat_tests)

has_some : (n : ℕ) → nat_lt 0 n ≡ true → 0 < n
has_some n is = grind (arith, nat_tests)

-- a line that is such a name is read as it stands, and spells it
pub bare_cut : (bytes name rest : List ℕ) → is_bare_name name ≡ true → bytes ≡ name ++ 10 ∷ rest → IsCut bytes name rest
bare_cut bytes name rest is whole =
    let parts = and_parts _ _ is in
    record {
      whole = whole;
      tidy = tidy_plain name (has_some (length name) parts.0) (λ k lt. above (get_or name k 0) (AllPass-from_list_all is_bare_byte name parts.1 k 0 lt));
    }

pub bare_means : (name : List ℕ) → is_bare_name name ≡ true → unescaped name ≡ name
bare_means name is = plain name (λ k lt. other (get_or name k 0) (AllPass-from_list_all is_bare_byte name (and_parts _ _ is).1 k 0 lt))

pub one_bare : (vars : List VarDecl) (i : ℕ) (v : VarDecl) → have_bare_names vars ≡ true → i < length vars → v ≡ get_or vars i v → is_bare_name v.name ≡ true
one_bare vars i v are lt at = ap (λ (u : VarDecl). is_bare_name u.name) at ∙ AllPass-from_list_all (λ (u : VarDecl). is_bare_name u.name) vars are i v lt

-- a point whose flag tells so
pub bare_at : (ps : List Point) (p : ℕ) → option_map_or (λ (d : PointDecl). have_bare_names d.vars) (decl_at ps p) true ≡ true → have_bare_names (var_decls_at ps p) ≡ true
unfolding var_decls_at
bare_at ps p is = go (decl_at ps p) is
  where
    go : (o : Option PointDecl) → option_map_or (λ (d : PointDecl). have_bare_names d.vars) o true ≡ true → have_bare_names (option_map_or (λ (d : PointDecl). d.vars) o []) ≡ true
    go None is = refl
    go (Some d) is = is
