-- What a block declares can be given by one.
use Rattle.std.proofs.Common.{◌≡◌, ◌<◌, ◌≤◌, ◌^◌, ℕ, Bool, true, false, List, [], ◌∷◌, All, length, Some, Ok, refl, subst, arith, if◌then◌else◌}
use Rattle.std.proofs.lemmas.List.Elements.{All-cons, All-head, All-nil, All-tail}
use Rattle.dk_base.specs.Names.{unescaped}
use Rattle.dk_base.specs.Pieces.{is_empty}
use Rattle.dk_base.specs.Reading.{Line}
use Rattle.dk_base.specs.Words.{rest_of_line}
use Rattle.dk_base.specs.declared.why.Why.TheVariants.{BadPoint}
use Rattle.dk_decl.proofs.LastLines.{bind_ok}
use Rattle.dk_decl.specs.Blocks.{block_decl, is_declare}
use Rattle.dk_decl.specs.DeclareBlock.{declare_lines, from_name}
use Rattle.dk_decl.specs.Heads.{head_line}
use Rattle.dk_decl.specs.LineWords.{each_line, operand}
use Rattle.dk_decl.specs.Outcomes.{refused}
use Rattle.dk_decl.specs.PptBlock.{groups, is_variable, point_name, ppt_lines, ppt_of, vars_after}
use Rattle.dk_decl.specs.declared.decls.EdgeDecl.{EdgeDecl}
use Rattle.dk_decl.specs.declared.decls.PointDecl.{PointDecl}
use Rattle.dk_decl.specs.declared.decls.VarDecl.{VarDecl}
use Rattle.dk_state.specs.Given.{CanBeGiven}
use Rattle.dk_core.proofs.Short.{IsShortLine}
use Rattle.dk_core.proofs.ShortRecords.{HasShortConstants}
use Rattle.dk_core.proofs.GivenEdges.{AreGivenEdges, HasNoLf, edges_given, no_edges}
use Rattle.dk_core.proofs.GivenVars.{AreGivenVars, IsGroup, IsLineSpelled, four_given, no_vars, vars_given}
use Rattle.dk_core.proofs.Spelled.{IsSpelled, both, is_name_spelled, spelled_rest, spelled_undone}

-- a declaration that can be given, whose constants are short
abbrev pub IsGiven : PointDecl → Type 0
IsGiven d = CanBeGiven d × HasShortConstants d

point_given : (name : List ℕ) (es : List EdgeDecl) (vs : List VarDecl) → IsSpelled name → AreGivenEdges es → AreGivenVars (length es) vs → IsGiven (record { name = name; edges = es; vars = vs })
point_given name es vs spelled edges vars = (
  record {
    given = both _ _ (is_name_spelled name spelled) (both _ _ (both _ _ edges.new edges.each) (both _ _ vars.new vars.each));
    fits = record { name = spelled.none; edges = edges.fits; vars = vars.fits };
  },
  vars.short,
)

record AreGrouped (n : ℕ) (gs : List Line × List (Line × List Line)) : Type 0 where
  heads : All HasNoLf gs.0
  short : All IsShortLine gs.0
  few : length gs.0 ≤ n
  groups_are : All IsGroup gs.1

grouped_lines : (ls : List Line) → All IsLineSpelled ls → All IsShortLine ls → AreGrouped (length ls) (groups ls)
grouped_lines [] all short = record { heads = All-nil HasNoLf; short = All-nil IsShortLine; few = omega arith; groups_are = All-nil IsGroup }
grouped_lines (l ∷ ls) all short = by (All-head IsLineSpelled l ls all) (grouped_lines ls (All-tail IsLineSpelled l ls all) (All-tail IsShortLine l ls short)) (is_variable l)
  where
    by : IsSpelled l.bytes → AreGrouped (length ls) (groups ls) → (b : Bool)
        → AreGrouped (length (l ∷ ls)) (if b then ([], (l, (groups ls).0) ∷ (groups ls).1) else (l ∷ (groups ls).0, (groups ls).1))
    by own rest true = record {
      heads = All-nil HasNoLf;
      short = All-nil IsShortLine;
      few = omega arith;
      groups_are = All-cons IsGroup (l, (groups ls).0) (groups ls).1 (own, rest.heads, rest.short) rest.groups_are;
    }
    by own rest false = record {
      heads = All-cons HasNoLf l (groups ls).0 own.none rest.heads;
      short = All-cons IsShortLine l (groups ls).0 (All-head IsShortLine l ls short) rest.short;
      few = omega (arith, rest.few);
      groups_are = rest.groups_are;
    }

ppt_gives : (implicit : Bool) (first : Line) (ls : List Line) (close : ℕ) (d : PointDecl) → IsLineSpelled first → All IsLineSpelled ls → All IsShortLine ls → length ls < 2 ^ 64
    → ppt_of implicit first ls (Some close) ≡ Ok d → IsGiven d
unfolding ppt_of ppt_lines point_name operand
ppt_gives implicit first ls close d own all short few e =
    bind_ok (point_name first) _ d e (λ name named rest.
    bind_ok (each_line head_line [] (groups ls).0) _ d rest (λ es heads more.
    bind_ok (vars_after implicit es [] (groups ls).1 (Some close)) (λ vs. Ok (record { name = name; edges = es; vars = vs })) d more (λ vs vars done.
    let parts = grouped_lines ls all short in
    let edges = edges_given (groups ls).0 [] es parts.heads no_edges heads in
    let few_edges : length es < 2 ^ 64 = omega (arith, edges.1, parts.few, few) in
    let same : record { name = name; edges = es; vars = vs } ≡ d = cc done in
    subst IsGiven same (point_given name es vs (name_spelled name named) edges.0 (vars_given implicit es [] (groups ls).1 close vs few_edges parts.groups_are (no_vars (length es)) vars)))))
  where
    name_spelled : (name : List ℕ) → (if is_empty (rest_of_line first.bytes) then refused BadPoint first.number else Ok (unescaped (rest_of_line first.bytes))) ≡ Ok name → IsSpelled name
    name_spelled name e = by (is_empty (rest_of_line first.bytes)) refl e
      where
        by : (b : Bool) → is_empty (rest_of_line first.bytes) ≡ b → (if b then refused BadPoint first.number else Ok (unescaped (rest_of_line first.bytes))) ≡ Ok name → IsSpelled name
        by true is e = absurd (cc e)
        by false is e = let same : unescaped (rest_of_line first.bytes) ≡ name = cc e in subst IsSpelled same (spelled_undone _ (spelled_rest first.bytes own is))

declare_gives : (implicit : Bool) (line : ℕ) (ls : List Line) (close : ℕ) (d : PointDecl) → All IsLineSpelled ls → All IsShortLine ls → declare_lines implicit line ls (Some close) ≡ Ok d → IsGiven d
unfolding declare_lines
declare_gives implicit line [] close d all short e = absurd (cc e)
declare_gives implicit line (l ∷ ls) close d all short e =
    bind_ok (from_name implicit [] ls (Some close)) (λ vs. Ok (record { name = unescaped l.bytes; edges = []; vars = vs })) d e (λ vs vars done.
    let same : record { name = unescaped l.bytes; edges = []; vars = vs } ≡ d = cc done in
    subst IsGiven same
    (point_given (unescaped l.bytes) [] vs (spelled_undone l.bytes (All-head IsLineSpelled l ls all)) no_edges
    (four_given implicit [] ls close vs (All-tail IsLineSpelled l ls all) (All-tail IsShortLine l ls short) (no_vars 0) vars)))

-- the declaration of a block whose lines are spelled can be given, and where they are short its constants are
pub block_gives : (implicit : Bool) (first : Line) (ls : List Line) (close : ℕ) (d : PointDecl) → IsLineSpelled first → All IsLineSpelled ls → All IsShortLine ls → length ls < 2 ^ 64
    → block_decl implicit first ls (Some close) ≡ Ok d → IsGiven d
unfolding block_decl
block_gives implicit first ls close d own all short few e = by (is_declare first) e
  where
    by : (b : Bool) → (if b then declare_lines implicit first.number ls (Some close) else ppt_of implicit first ls (Some close)) ≡ Ok d → IsGiven d
    by true e = declare_gives implicit first.number ls close d all short e
    by false e = ppt_gives implicit first ls close d own all short few e
