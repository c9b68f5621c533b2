-- In a record each line counts by its position.
use Rattle.std.specs.Prelude.{◌≡◌, ◌*◌, ℕ, not, true, List, [], ◌∷◌, drop, filter, flat_map, length, Some, Ok, if◌then◌else◌}
use Rattle.std.specs.List.{AllZip, zip}
use Rattle.dk_base.specs.Names.{unescaped}
use Rattle.dk_base.specs.Reading.{Line}
use Rattle.dk_base.specs.declared.values.Value.{Value}
use Rattle.dk_decl.specs.declared.decls.VarDecl.{VarDecl}
use Rattle.dk_points.specs.Table.{Point}
use Rattle.dk_trace.specs.Bodies.{is_nonce_line}
use Rattle.dk_trace.specs.Marks.{marked_value}
use Rattle.dk_trace.specs.Records.{Sample, sample_of, var_decls_at}
use Rattle.dk_trace.specs.Values.{known_values}

-- three lines
pub record Three : Type 0 where
  pub name : Line
  pub text : Line
  pub mark : Line

-- the lines, three by three
abbrev pub threes : List Line → List Three
threes (a ∷ b ∷ c ∷ ls) = record { name = a; text = b; mark = c } ∷ threes ls
threes _ = []

-- the lines behind the nonce, if the first of them says that one follows
abbrev pub behind_nonce : List Line → List Line
behind_nonce [] = []
behind_nonce (l ∷ ls) = if is_nonce_line l then drop 1 ls else l ∷ ls

-- the three lines are the variable's, and these values are what its text and its mark say
pub record IsGiven (t : Three) (e : VarDecl × List Value) : Type 0 where
  pub named : unescaped t.name.bytes ≡ e.0.name
  pub said : marked_value e.0.kind t.text t.mark ≡ Ok e.1

-- the values of a variable with a constant are that constant, if it isn't opaque
abbrev pub HasConstant : VarDecl → List Value → Type 0
HasConstant v values = v.constant_line ≡ true → values ≡ known_values v.constant

-- Each variable in order has the values of its constant, or those that its three lines say; no line is left over.
pub record AreInOrder (vs : List VarDecl) (ls : List Line) (values : List Value) : Type 0 where
  pub by_variable : List (List Value)
  pub all : values ≡ flat_map (λ front. front) by_variable
  pub constants : AllZip HasConstant vs by_variable
  pub given : AllZip IsGiven (threes ls) (filter (λ e. not e.0.constant_line) (zip vs by_variable))
  pub none_left : length ls ≡ 3 * length (filter (λ v. not v.constant_line) vs)

-- Behind the name and the nonce of a record the first of three lines is a variable's name, the second its value's text, the third the mark.
abbrev pub LinesCountByPosition : Type 0
LinesCountByPosition = (ps : List Point) (first : Line) (ls : List Line) (close : ℕ) (s : Sample)
    → sample_of ps first ls (Some close) ≡ Ok s → AreInOrder (var_decls_at ps s.point) (behind_nonce ls) s.values
