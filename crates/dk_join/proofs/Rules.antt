-- Which roles of their conclusions the premises of the table of the rules read.
use Rattle.std.specs.Prelude.{◌≡◌, ◌<◌, ◌&&◌, ◌||◌, ◌==◌, ℕ, zero, suc, Bool, true, false, not, List, [], ◌++◌, if◌then◌else◌, length, nat_lt, refl, take}
use Rattle.std.specs.List.{list_all, list_any}
use Rattle.std.proofs.Common.{◌∙◌, ap, arith, inl, inr, subst, sym}
use Rattle.std.proofs.lemmas.Bool.{and_parts, cases_Bool, eqb-false}
use Rattle.dk_forms.proofs.Summaries.{IsIn-append_left, IsIn-append_right}
use Rattle.dk_forms.specs.Laws.{IsIn}
use Rattle.dk_instances.proofs.Members.{append_cases, in_flat, of_flat}
use Rattle.dk_suppress.specs.Rules.{Rule, rules}
use Rattle.dk_template.specs.Premises.{roles_read, row_of}
use Rattle.dk_template.specs.Templates.{arity_of, rows, template_of}
use Rattle.dk_template.specs.declared.answers.Premise.{Premise}
use Rattle.dk_template.specs.declared.grammar.RowId.{RowId}
use Rattle.dk_template.specs.declared.templates.Symmetry.{Symmetry}
use Rattle.dk_template.specs.declared.templates.Symmetry.TheVariants as symmetry
use Rattle.dk_join.proofs.Lists.{all_at}
use Rattle.dk_join.proofs.Lone.{are_apart}
use Rattle.dk_join.specs.Watched.{first_premises, premises_below, premises_of, watched, with_below}

-- ---- what premises read
abbrev pub reads : ℕ → Premise → Bool
reads role p = list_any (λ r. r == role) (roles_read p)

-- it reads roles of so many, none twice
abbrev pub is_within : ℕ → Premise → Bool
is_within count p = list_all (λ role. nat_lt role count) (roles_read p) && are_apart (roles_read p)

-- each of so many roles is read by one of the premises
abbrev pub read_each : ℕ → List Premise → Bool
read_each zero premises = true
read_each (suc n) premises = list_any (reads n) premises && read_each n premises

pub each_is_read : (n role : ℕ) (premises : List Premise) → read_each n premises ≡ true → role < n → list_any (reads role) premises ≡ true
each_is_read zero role premises h l = absurd (omega (arith, l))
each_is_read (suc n) role premises h l =
    let hs = and_parts (list_any (reads n) premises) (read_each n premises) h in
    elim (cases_Bool (role == n)) as (λ _. list_any (reads role) premises ≡ true) [
      | inl same ↦ ap (λ k. list_any (reads k) premises) (is_last role n same) ∙ hs.0
      | inr differ ↦ (let d = eqb-false role n differ in each_is_read n role premises hs.1 (before role n l d))
    ]
  where
    is_last : (role n : ℕ) → (role == n) ≡ true → role ≡ n
    is_last role n same = grind arith

    before : (role n : ℕ) → role < suc n → (role ≡ n → ⊥) → role < n
    before role n l d = omega (arith, l, d)

-- each rule of a row of so many roles reads each of them, and nothing else
abbrev pub rules_read_each : ℕ → RowId → Bool
rules_read_each count row = list_all (λ (r : Rule). not (r.0.0 == row.0) || (list_all (is_within count) r.1 && read_each count r.1)) rules

-- so do the rules by which premises follow, and those by which their premises do, for so many levels
abbrev pub all_read_each : ℕ → List Premise → Bool
all_read_each zero premises = true
all_read_each (suc n) premises =
    list_all (λ p. rules_read_each (length (roles_read p)) (row_of p)) premises && all_read_each n (premises_below premises)

-- ---- rows of three roles
-- the first role isn't exchanged
abbrev pub stays_first : Symmetry → Bool
stays_first symmetry.Fixed = true
stays_first symmetry.All = false
stays_first symmetry.Arguments = true

-- the rule's first premise reads the first of three roles, which isn't exchanged
abbrev pub is_led : Rule → Bool
is_led r =
    stays_first (template_of r.0).symmetry
    && (list_any (reads 0) (take 1 r.1) && (list_all (is_within 3) (take 1 r.1) && all_read_each 3 (take 1 r.1)))

abbrev pub is_of_three : RowId → Bool
is_of_three row = arity_of row == 3

all_are_led : list_all (λ (r : Rule). not (is_of_three r.0) || is_led r) rules ≡ true
unfolding rules rows premises_of
all_are_led = refl

pub rule_is_led : (r : Rule) → IsIn r rules → is_of_three r.0 ≡ true → is_led r ≡ true
rule_is_led r i three = sym (ap (λ b. not b || is_led r) three) ∙ all_at (λ (s : Rule). not (is_of_three s.0) || is_led s) r rules i all_are_led

-- ---- what is watched
below_more : (n : ℕ) (some more : List Premise) → ((p : Premise) → IsIn p some → IsIn p more) → (p : Premise) → IsIn p (with_below n some) → IsIn p (with_below n more)
below_more zero some more within p i = absurd i
below_more (suc n) some more within p i =
    elim (append_cases p some (with_below n (premises_below some)) i) as (λ _. IsIn p (more ++ with_below n (premises_below more))) [
      | inl here ↦ IsIn-append_left p more (with_below n (premises_below more)) (within p here)
      | inr below ↦
          IsIn-append_right p more (with_below n (premises_below more))
          (below_more n (premises_below some) (premises_below more)
          (λ q j. let from = of_flat (λ (s : Premise). premises_of (row_of s)) q some j in in_flat (λ (s : Premise). premises_of (row_of s)) q from.0 more from.2 (within from.0 from.1)) p below)
    ]

-- a premise of a row's rule
pub of_rule : (row : RowId) (r : Rule) → IsIn r rules → (r.0.0 == row.0) ≡ true → (p : Premise) → IsIn p r.1 → IsIn p (premises_of row)
unfolding premises_of
of_rule row r i same p j =
    in_flat (λ (s : Rule). if s.0.0 == row.0 then s.1 else []) p r rules (subst (λ b. IsIn p (if b then r.1 else [])) (sym same) j) i

-- the first premise of a rule and all below it are watched
pub first_is_watched : (row : RowId) (r : Rule) → IsIn r rules → (r.0.0 == row.0) ≡ true → (p : Premise) → IsIn p (with_below 3 (take 1 r.1)) → IsIn p (watched row)
unfolding watched first_premises
first_is_watched row r i same p j =
    below_more 3 (take 1 r.1) (first_premises row)
    (λ q k. in_flat (λ (s : Rule). if s.0.0 == row.0 then take 1 s.1 else []) q r rules (subst (λ b. IsIn q (if b then take 1 r.1 else [])) (sym same) k) i) p j
