-- Lines of a `ppt` block that have no effect may be left out.
use Rattle.std.proofs.Common.{◌≡◌, ◌∙◌, ◌&&◌, ◌||◌, ◌==◌, ◌+◌, ◌⊎◌, inl, inr, ℕ, suc, Bool, true, false, not, List, [], ◌∷◌, Option, Result, Ok, codes, cond, refl, sym, ap, subst, if◌then◌else◌, filter, map, bytes_eq, arith}
use Rattle.std.proofs.lemmas.Bool.{eqb-true}
use Rattle.std.specs.List.{position_or_len}
use Rattle.dk_base.specs.Pieces.{is_blank}
use Rattle.dk_base.specs.Reading.{Line, LineFault, ◌>>=◌}
use Rattle.dk_base.specs.Words.{first_word}
use Rattle.dk_decl.specs.Heads.{head_line}
use Rattle.dk_decl.specs.LineWords.{begins, each_line}
use Rattle.dk_decl.specs.PptBlock.{groups, has_ended, is_variable, point_name, point_with, ppt_lines, ppt_of, vars_after, with_var}
use Rattle.dk_decl.specs.Comments.{is_comment}
use Rattle.dk_decl.specs.ReadPast.{CommentsAreReadPast, OtherLinesAreReadPast, is_read}
use Rattle.dk_decl.specs.Variables.{open_var, var_line}
use Rattle.dk_decl.specs.declared.decls.EdgeDecl.{EdgeDecl}
use Rattle.dk_decl.specs.declared.decls.PointDecl.{PointDecl}
use Rattle.dk_decl.specs.declared.decls.VarDecl.{VarDecl}
use Rattle.dk_decl.specs.declared.variables.OpenVar.{OpenVar}

or_left : (a b : Bool) → (a || b) ≡ false → a ≡ false
or_left true b h = cc
or_left false b h = refl

or_right : (a b : Bool) → (a || b) ≡ false → b ≡ false
or_right true b h = cc
or_right false b h = h

-- a line that has none of the format's first words
record IsOther (l : Line) : Type 0 where
  variable : begins (codes "variable") l.bytes ≡ false
  point_type : begins (codes "ppt-type") l.bytes ≡ false
  parent : begins (codes "parent") l.bytes ≡ false
  rep_type : begins (codes "rep-type") l.bytes ≡ false
  compar : begins (codes "comparability") l.bytes ≡ false
  constant : begins (codes "constant") l.bytes ≡ false

none_of : (a b c d e f : Bool) → (a || b || c || d || e || f) ≡ false
    → (a ≡ false) × (b ≡ false) × (c ≡ false) × (d ≡ false) × (e ≡ false) × (f ≡ false)
none_of false false false false false false h = (refl, refl, refl, refl, refl, refl)
none_of true b c d e f h = cc
none_of false true c d e f h = cc
none_of false false true d e f h = cc
none_of false false false true e f h = cc
none_of false false false false true f h = cc
none_of false false false false false true h = cc

other : (l : Line) → is_read l ≡ false → IsOther l
other l h =
    let n = none_of (begins (codes "variable") l.bytes) (begins (codes "ppt-type") l.bytes) (begins (codes "parent") l.bytes)
    (begins (codes "rep-type") l.bytes) (begins (codes "comparability") l.bytes) (begins (codes "constant") l.bytes) h in
    record { variable = n.0; point_type = n.1; parent = n.2; rep_type = n.3; compar = n.4; constant = n.5 }

past_head : (es : List EdgeDecl) (l : Line) → IsOther l → head_line es l ≡ Ok es
unfolding head_line
past_head es l o = rw (o.point_type, o.parent) refl

past_var : (implicit : Bool) (es : List EdgeDecl) (v : OpenVar) (l : Line) → IsOther l → var_line implicit es v l ≡ Ok v
unfolding var_line
past_var implicit es v l o = rw (o.rep_type, o.compar, o.constant, o.parent) refl

no_variable : (l : Line) → IsOther l → is_variable l ≡ false
unfolding is_variable
no_variable l o = o.variable

-- lines that change nothing may be left out
each_same : {S : Type 0} (read : S → Line → Result S LineFault) (keeps : Line → Bool) → ((s : S) (l : Line) → keeps l ≡ false → read s l ≡ Ok s)
    → (s : S) (ls : List Line) → each_line read s (filter keeps ls) ≡ each_line read s ls
each_same read keeps skips s [] = refl
each_same {S} read keeps skips s (l ∷ ls) = go (keeps l) refl (λ s. each_same read keeps skips s ls)
  where
    go : (b : Bool) → keeps l ≡ b → ((s : S) → each_line read s (filter keeps ls) ≡ each_line read s ls)
        → each_line read s (cond b (l ∷ filter keeps ls) (filter keeps ls)) ≡ (read s l >>= λ next. each_line read next ls)
    go true h again = λ i. read s l >>= λ next. again next i
    go false h again = again s ∙ sym (ap (λ r. r >>= λ next. each_line read next ls) (skips s l h))

abbrev kept_lines : (Line → Bool) → Line × List Line → Line × List Line
kept_lines keeps g = (g.0, filter keeps g.1)

abbrev kept_groups : (Line → Bool) → List Line × List (Line × List Line) → List Line × List (Line × List Line)
kept_groups keeps gs = (filter keeps gs.0, map (kept_lines keeps) gs.1)

groups_same : (keeps : Line → Bool) → ((l : Line) → keeps l ≡ false → is_variable l ≡ false) → (ls : List Line) → groups (filter keeps ls) ≡ kept_groups keeps (groups ls)
groups_same keeps others [] = refl
groups_same keeps others (l ∷ ls) = go (keeps l) (is_variable l) refl refl (groups_same keeps others ls)
  where
    go : (b v : Bool) → keeps l ≡ b → is_variable l ≡ v → groups (filter keeps ls) ≡ kept_groups keeps (groups ls)
        → groups (cond b (l ∷ filter keeps ls) (filter keeps ls))
        ≡ kept_groups keeps (if v then ([], (l, (groups ls).0) ∷ (groups ls).1) else (l ∷ (groups ls).0, (groups ls).1))
    go true true h e again = rw e (ap (λ (g : List Line × List (Line × List Line)). ([], (l, g.0) ∷ g.1)) again)
    go true false h e again = rw (e, h) (ap (λ (g : List Line × List (Line × List Line)). (l ∷ g.0, g.1)) again)
    go false true h e again = let no : true ≡ false = sym e ∙ others l h in cc
    go false false h e again = rw h again

ended_same : (keeps : Line → Bool) (gs : List (Line × List Line)) (close : Option ℕ) → has_ended (map (kept_lines keeps) gs) close ≡ has_ended gs close
ended_same keeps [] close = refl
ended_same keeps (g ∷ gs) close = refl

vars_same : (implicit : Bool) (es : List EdgeDecl) (keeps : Line → Bool) → ((v : OpenVar) (l : Line) → keeps l ≡ false → var_line implicit es v l ≡ Ok v)
    → (vs : List VarDecl) (gs : List (Line × List Line)) (close : Option ℕ)
    → vars_after implicit es vs (map (kept_lines keeps) gs) close ≡ vars_after implicit es vs gs close
vars_same implicit es keeps skips vs [] close = refl
vars_same implicit es keeps skips vs (g ∷ gs) close = λ i.
    open_var vs g.0 >>= λ o. each_same (var_line implicit es) keeps skips o g.1 i >>= λ w. with_var vs w (ended_same keeps gs close i) >>= λ more.
    vars_same implicit es keeps skips more gs close i

-- lines without the format's first words may be left out of a block
pub left_out : (keeps : Line → Bool) → ((l : Line) → keeps l ≡ false → is_read l ≡ false) → (implicit : Bool) (first : Line) (ls : List Line) (close : Option ℕ)
    → ppt_of implicit first (filter keeps ls) close ≡ ppt_of implicit first ls close
unfolding ppt_of ppt_lines
left_out keeps others implicit first ls close = ap read (groups_same keeps (λ l h. no_variable l (other l (others l h))) ls) ∙ same
  where
    read : List Line × List (Line × List Line) → Result PointDecl LineFault
    read gs = point_name first >>= λ name. each_line head_line [] gs.0 >>= λ es. point_with name es (vars_after implicit es [] gs.1 close)

    same : read (kept_groups keeps (groups ls)) ≡ read (groups ls)
    same = λ i. point_name first >>= λ name. each_same head_line keeps (λ es l h. past_head es l (other l (others l h))) [] (groups ls).0 i >>= λ es.
        point_with name es (vars_same implicit es keeps (λ v l h. past_var implicit es v l (other l (others l h))) [] (groups ls).1 close i)

pub other_lines : OtherLinesAreReadPast
other_lines = left_out is_read (λ l h. h)

-- a line that begins with a byte that is no blank has a first word that begins with it
word_begins : (b : ℕ) (bs : List ℕ) → is_blank b ≡ false → first_word (b ∷ bs) ≡ b ∷ first_word bs
word_begins b bs h = rw h (let s : 1 + position_or_len is_blank bs ≡ suc (position_or_len is_blank bs) = omega arith in rw s refl)

comment_begins : (b : ℕ) (bs : List ℕ) → is_comment (b ∷ bs) ≡ true → (b ≡ 35) ⊎ (b ≡ 47)
unfolding is_comment
comment_begins b bs h = go (35 == b) (47 == b) _ _ refl refl h
  where
    go : (x y u v : Bool) → (35 == b) ≡ x → (47 == b) ≡ y → ((x && u) || (y && v)) ≡ true → (b ≡ 35) ⊎ (b ≡ 47)
    go true y u v e f h = inl (sym (eqb-true 35 b e))
    go false true u v e f h = inr (sym (eqb-true 47 b f))
    go false false u v e f h = cc

-- with these two bytes no line of the format begins
no_word : (b : ℕ) (bs : List ℕ) (n : ℕ) → is_blank b ≡ false
    → (bytes_eq (b ∷ first_word bs) (codes "variable") || bytes_eq (b ∷ first_word bs) (codes "ppt-type") || bytes_eq (b ∷ first_word bs) (codes "parent")
    || bytes_eq (b ∷ first_word bs) (codes "rep-type") || bytes_eq (b ∷ first_word bs) (codes "comparability") || bytes_eq (b ∷ first_word bs) (codes "constant")) ≡ false
    → is_read (record { number = n; bytes = b ∷ bs }) ≡ false
unfolding begins
no_word b bs n h e = rw (word_begins b bs h) e

comment_is_past : (n : ℕ) (bytes : List ℕ) → is_comment bytes ≡ true → is_read (record { number = n; bytes = bytes }) ≡ false
unfolding is_comment
comment_is_past n [] h = cc
comment_is_past n (b ∷ bs) h = go (comment_begins b bs h)
  where
    P : ℕ → Type 0
    P c = is_read (record { number = n; bytes = c ∷ bs }) ≡ false

    go : (b ≡ 35) ⊎ (b ≡ 47) → is_read (record { number = n; bytes = b ∷ bs }) ≡ false
    go (inl e) = subst P (sym e) (no_word 35 bs n refl refl)
    go (inr e) = subst P (sym e) (no_word 47 bs n refl refl)

not_false : (b : Bool) → not b ≡ false → b ≡ true
not_false true h = refl
not_false false h = cc

pub comments : CommentsAreReadPast
comments = left_out (λ l. not (is_comment l.bytes)) (λ l h. comment_is_past l.number l.bytes (not_false (is_comment l.bytes) h))
