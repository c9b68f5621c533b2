-- Of a repeated line the last one counts.
use Rattle.std.proofs.Common.{◌≡◌, ◌∙◌, ◌&&◌, ◌||◌, ◌++◌, ℕ, Bool, true, false, List, [], ◌∷◌, Option, Some, None, Result, Ok, Err, codes, cond, refl, sym, ap, subst, if◌then◌else◌, filter, flat_map, is_some, unwrap_or, option_and_then, option_map, append_assoc, append-nil, bytes_eq}
use Rattle.std.specs.List.{AllZip, last_or}
use Rattle.std.specs.Option.{option_map_or}
use Rattle.std.proofs.lemmas.Slice.Eq.{bytes_eq-Decides}
use Rattle.dk_base.specs.Names.{unescaped}
use Rattle.dk_base.specs.Pieces.{is_empty}
use Rattle.dk_base.specs.Reading.{Line, LineFault, ◌>>=◌}
use Rattle.dk_base.specs.Words.{first_word}
use Rattle.dk_base.specs.declared.why.Why.TheVariants.{BadVariable}
use Rattle.dk_decl.specs.Brackets.{compar_of, no_compar}
use Rattle.dk_decl.specs.Heads.{head_line}
use Rattle.dk_decl.specs.Laws.{IsDeclaredBy, LastLinesCount, compar_at, constant_in, counterparts_at, last_compar, last_constant, last_line, last_rep_type, lines_of, rep_type_at}
use Rattle.dk_decl.specs.LineWords.{begins, each_line, operand, operands}
use Rattle.dk_decl.specs.Outcomes.{or_refused, refused}
use Rattle.dk_decl.specs.PptBlock.{groups, has_ended, point_name, point_with, ppt_lines, ppt_of, vars_after, with_var}
use Rattle.dk_decl.specs.Types.{constant_at, rep_kind, rep_type_of}
use Rattle.dk_decl.specs.VarNames.{has_name}
use Rattle.dk_decl.specs.Variables.{counterparts, new_var, open_var, var_decl_of, var_line, var_with, with_counterparts}
use Rattle.dk_decl.specs.declared.decls.EdgeDecl.{EdgeDecl}
use Rattle.dk_decl.specs.declared.decls.VarDecl.{VarDecl}
use Rattle.dk_decl.specs.declared.variables.OpenVar.{OpenVar}

-- reading that gives something has given something at its first step
pub bind_ok : {A B P : Type 0} (r : Result A LineFault) (f : A → Result B LineFault) (y : B) → (r >>= f) ≡ Ok y → ((x : A) → r ≡ Ok x → f x ≡ Ok y → P) → P
bind_ok (Ok x) f y e k = k x refl e
bind_ok (Err d) f y e k = cc e

same_ok : {A : Type 0} (r : Result A LineFault) (x y : A) → r ≡ Ok x → r ≡ Ok y → y ≡ x
same_ok r x y e h = cc

or_refused_ok : {A : Type 0} (line : ℕ) (o : Option A) (x : A) → or_refused BadVariable line o ≡ Ok x → o ≡ Some x
or_refused_ok line None x e = cc e
or_refused_ok line (Some y) x e = cc e

-- a line begins with one word alone
only_word : (a b : List ℕ) (bytes : List ℕ) → bytes_eq a b ≡ false → begins a bytes ≡ true → begins b bytes ≡ false
unfolding begins
only_word a b bytes differ here =
    let e : first_word bytes ≡ a = (bytes_eq-Decides (first_word bytes) a).0 here in
    ap (λ w. bytes_eq w b) e ∙ differ

and_left : (a b : Bool) → (a && b) ≡ true → a ≡ true
and_left true b h = refl
and_left false b h = cc

-- what a line changes, whose first word is one of the four or none
record Changes (a b c d : Bool) (es : List EdgeDecl) (o : OpenVar) (l : Line) (m : OpenVar) : Type 0 where
  line : m.line ≡ o.line
  name : m.name ≡ o.name
  rep : m.rep ≡ (if a then rep_type_at l else o.rep)
  compar : m.compar ≡ (if b then compar_at l else o.compar)
  constant : m.constant ≡ (if c then Some (constant_in l) else o.constant)
  parents : m.parents ≡ o.parents ++ (if d then counterparts_at es o.name l else [])

unchanged : (o m : OpenVar) → m.parents ≡ o.parents → m.parents ≡ o.parents ++ []
unchanged o m e = e ∙ sym (append-nil o.parents)

changed : (a b c d : Bool) (es : List EdgeDecl) (o m : OpenVar) (l : Line)
    → (a ≡ true → b ≡ false) → (a ≡ true → c ≡ false) → (a ≡ true → d ≡ false) → (b ≡ true → c ≡ false) → (b ≡ true → d ≡ false) → (c ≡ true → d ≡ false)
    → (if a then (or_refused BadVariable l.number (rep_type_of (operand l.bytes)) >>= λ r. Ok (record o { rep = Some r }))
    else if b then (or_refused BadVariable l.number (compar_of (operand l.bytes)) >>= λ q. Ok (record o { compar = q }))
    else if c then Ok (record o { constant = Some (record { line = l.number; text = operand l.bytes }) })
    else if d then (with_counterparts o.parents l.number (counterparts es o.name (operands l.bytes)) >>= λ ps. Ok (record o { parents = ps }))
    else Ok o) ≡ Ok m → Changes a b c d es o l m
changed true true c d es o m l ab ac ad bc bd cd e = let no : true ≡ false = ab refl in cc
changed true false true d es o m l ab ac ad bc bd cd e = let no : true ≡ false = ac refl in cc
changed true false false true es o m l ab ac ad bc bd cd e = let no : true ≡ false = ad refl in cc
changed false true true d es o m l ab ac ad bc bd cd e = let no : true ≡ false = bc refl in cc
changed false true false true es o m l ab ac ad bc bd cd e = let no : true ≡ false = bd refl in cc
changed false false true true es o m l ab ac ad bc bd cd e = let no : true ≡ false = cd refl in cc
changed true false false false es o m l ab ac ad bc bd cd e =
    bind_ok (or_refused BadVariable l.number (rep_type_of (operand l.bytes))) (λ r. Ok (record o { rep = Some r })) m e (λ r read done.
    let said : m.rep ≡ Some r = cc in
    let same : m.parents ≡ o.parents = cc in
    record { line = cc; name = cc; rep = said ∙ sym (or_refused_ok l.number (rep_type_of (operand l.bytes)) r read); compar = cc; constant = cc; parents = unchanged o m same })
changed false true false false es o m l ab ac ad bc bd cd e =
    bind_ok (or_refused BadVariable l.number (compar_of (operand l.bytes))) (λ q. Ok (record o { compar = q })) m e (λ q read done.
    let said : m.compar ≡ q = cc in
    let same : m.parents ≡ o.parents = cc in
    record { line = cc; name = cc; rep = cc; compar = said ∙ ap (λ f. unwrap_or f no_compar) (sym (or_refused_ok l.number (compar_of (operand l.bytes)) q read)); constant = cc; parents = unchanged o m same })
changed false false true false es o m l ab ac ad bc bd cd e =
    let same : m.parents ≡ o.parents = cc in
    record { line = cc; name = cc; rep = cc; compar = cc; constant = cc; parents = unchanged o m same }
changed false false false true es o m l ab ac ad bc bd cd e =
    bind_ok (with_counterparts o.parents l.number (counterparts es o.name (operands l.bytes))) (λ ps. Ok (record o { parents = ps })) m e (λ ps read done.
    bind_ok (or_refused BadVariable l.number (counterparts es o.name (operands l.bytes))) (λ more. Ok (o.parents ++ more)) ps read (λ more found whole.
    let said : m.parents ≡ o.parents ++ more = cc in
    record {
      line = cc;
      name = cc;
      rep = cc;
      compar = cc;
      constant = cc;
      parents = said ∙ ap (λ f. o.parents ++ unwrap_or f []) (sym (or_refused_ok l.number (counterparts es o.name (operands l.bytes)) more found));
    }))
changed false false false false es o m l ab ac ad bc bd cd e =
    let same : m.parents ≡ o.parents = cc in
    record { line = cc; name = cc; rep = cc; compar = cc; constant = cc; parents = unchanged o m same }

-- what one line of a variable changes
step : (implicit : Bool) (es : List EdgeDecl) (o m : OpenVar) (l : Line) → var_line implicit es o l ≡ Ok m
    → Changes (begins (codes "rep-type") l.bytes) (begins (codes "comparability") l.bytes && implicit) (begins (codes "constant") l.bytes) (begins (codes "parent") l.bytes) es o l m
unfolding var_line
step implicit es o m l e =
    changed (begins (codes "rep-type") l.bytes) (begins (codes "comparability") l.bytes && implicit) (begins (codes "constant") l.bytes) (begins (codes "parent") l.bytes) es o m l
    (λ h. ap (λ b. b && implicit) (only_word (codes "rep-type") (codes "comparability") l.bytes refl h))
    (only_word (codes "rep-type") (codes "constant") l.bytes refl)
    (only_word (codes "rep-type") (codes "parent") l.bytes refl)
    (λ h. only_word (codes "comparability") (codes "constant") l.bytes refl (and_left (begins (codes "comparability") l.bytes) implicit h))
    (λ h. only_word (codes "comparability") (codes "parent") l.bytes refl (and_left (begins (codes "comparability") l.bytes) implicit h))
    (only_word (codes "constant") (codes "parent") l.bytes refl) e

-- a part of the variable that only lines of one sort change, each of them anew, is what the last of them says
last_kept : {A : Type 0} (read : OpenVar → Line → Result OpenVar LineFault) (part : OpenVar → A) (said : Line → A) (sort : Line → Bool) (d : A)
    → ((o m : OpenVar) (l : Line) → read o l ≡ Ok m → part m ≡ (if sort l then said l else part o))
    → (o w : OpenVar) (ls : List Line) (start : Option Line) → part o ≡ option_map_or said start d → each_line read o ls ≡ Ok w
    → part w ≡ option_map_or said (last_or start (filter sort ls)) d
last_kept read part said sort d one o w [] start begun e = ap part (same_ok (Ok o) o w refl e) ∙ begun
last_kept {A} read part said sort d one o w (l ∷ ls) start begun e =
    bind_ok (read o l) (λ m. each_line read m ls) w e (λ m here more.
    chosen m (λ from h. last_kept read part said sort d one m w ls from h more) (sort l) (one o m l here))
  where
    chosen : (m : OpenVar) → ((from : Option Line) → part m ≡ option_map_or said from d → part w ≡ option_map_or said (last_or from (filter sort ls)) d)
        → (b : Bool) → part m ≡ (if b then said l else part o) → part w ≡ option_map_or said (last_or start (cond b (l ∷ filter sort ls) (filter sort ls))) d
    chosen m again true h = again (Some l) h
    chosen m again false h = again start (h ∙ begun)

-- a part that no line changes
same_kept : {A : Type 0} (read : OpenVar → Line → Result OpenVar LineFault) (part : OpenVar → A)
    → ((o m : OpenVar) (l : Line) → read o l ≡ Ok m → part m ≡ part o) → (o w : OpenVar) (ls : List Line) → each_line read o ls ≡ Ok w → part w ≡ part o
same_kept read part one o w [] e = ap part (same_ok (Ok o) o w refl e)
same_kept read part one o w (l ∷ ls) e =
    bind_ok (read o l) (λ m. each_line read m ls) w e (λ m here more. same_kept read part one m w ls more ∙ one o m l here)

-- each `parent` line counts
parents_kept : (implicit : Bool) (es : List EdgeDecl) (o w : OpenVar) (ls : List Line) → each_line (var_line implicit es) o ls ≡ Ok w
    → w.parents ≡ o.parents ++ flat_map (counterparts_at es o.name) (lines_of (codes "parent") ls)
parents_kept implicit es o w [] e = ap (λ x. x.parents) (same_ok (Ok o) o w refl e) ∙ sym (append-nil o.parents)
parents_kept implicit es o w (l ∷ ls) e =
    bind_ok (var_line implicit es o l) (λ m. each_line (var_line implicit es) m ls) w e (λ m here more.
    let s = step implicit es o m l here in
    parents_kept implicit es m w ls more ∙ ap (λ name. m.parents ++ flat_map (counterparts_at es name) (lines_of (codes "parent") ls)) s.name
    ∙ ap (λ ps. ps ++ flat_map (counterparts_at es o.name) (lines_of (codes "parent") ls)) s.parents ∙ joined (begins (codes "parent") l.bytes))
  where
    joined : (b : Bool) → (o.parents ++ (if b then counterparts_at es o.name l else [])) ++ flat_map (counterparts_at es o.name) (lines_of (codes "parent") ls)
        ≡ o.parents ++ flat_map (counterparts_at es o.name) (cond b (l ∷ lines_of (codes "parent") ls) (lines_of (codes "parent") ls))
    joined true = append_assoc o.parents (counterparts_at es o.name l) (flat_map (counterparts_at es o.name) (lines_of (codes "parent") ls))
    joined false = ap (λ ps. ps ++ flat_map (counterparts_at es o.name) (lines_of (codes "parent") ls)) (append-nil o.parents)

or_none : {A B : Type 0} (f : A → Option B) (o : Option A) → option_map_or f o None ≡ option_and_then f o
or_none f None = refl
or_none f (Some x) = refl

mapped_or_none : {A B : Type 0} (f : A → B) (o : Option A) → option_map_or {U = Option B} (λ x. Some (f x)) o None ≡ option_map f o
mapped_or_none f None = refl
mapped_or_none f (Some x) = refl

mapped_or : {A B : Type 0} (f : A → B) (o : Option A) (d : B) → option_map_or f o d ≡ unwrap_or (option_map f o) d
mapped_or f None d = refl
mapped_or f (Some x) d = refl

and_true : (a : Bool) → (a && true) ≡ a
and_true true = refl
and_true false = refl

and_false : (a : Bool) → (a && false) ≡ false
and_false true = refl
and_false false = refl

-- the comparability of the variable: what the last line says, or nothing under the word `none`
compar_kept : (implicit : Bool) (es : List EdgeDecl) (o w : OpenVar) (ls : List Line) → o.compar ≡ no_compar → each_line (var_line implicit es) o ls ≡ Ok w
    → w.compar ≡ (if implicit then last_compar ls else no_compar)
compar_kept true es o w ls begun e =
    last_kept (var_line true es) (λ x. x.compar) compar_at (λ l. begins (codes "comparability") l.bytes) no_compar
    (λ o m l h. (step true es o m l h).compar ∙ ap (λ b. if b then compar_at l else o.compar) (and_true (begins (codes "comparability") l.bytes))) o w ls None begun e
    ∙ mapped_or compar_at (last_line (codes "comparability") ls) no_compar
compar_kept false es o w ls begun e =
    same_kept (var_line false es) (λ x. x.compar)
    (λ o m l h. (step false es o m l h).compar ∙ ap (λ b. if b then compar_at l else o.compar) (and_false (begins (codes "comparability") l.bytes))) o w ls e ∙ begun

opened_as : (vs : List VarDecl) (l : Line) (o : OpenVar) → open_var vs l ≡ Ok o → o ≡ new_var l.number (unescaped (operand l.bytes))
unfolding open_var
opened_as vs l o e = go (is_empty (operand l.bytes) || has_name (unescaped (operand l.bytes)) vs) e
  where
    go : (b : Bool) → (if b then refused {A = OpenVar} BadVariable l.number else Ok (new_var l.number (unescaped (operand l.bytes)))) ≡ Ok o
        → o ≡ new_var l.number (unescaped (operand l.bytes))
    go true h = cc
    go false h = cc

-- a variable is what its lines say
declared_by : (implicit : Bool) (es : List EdgeDecl) (vs : List VarDecl) (g : Line × List Line) (o w : OpenVar) (v : VarDecl)
    → open_var vs g.0 ≡ Ok o → each_line (var_line implicit es) o g.1 ≡ Ok w → var_decl_of w ≡ Ok v → IsDeclaredBy implicit es g v
unfolding var_decl_of
declared_by implicit es vs g o w v open_is lines_are closed_is =
    bind_ok (or_refused BadVariable w.line w.rep) (λ rep. constant_at rep w.constant >>= λ constant. Ok (var_with w rep constant)) v closed_is (λ rep rep_found then_constant.
    bind_ok (constant_at rep w.constant) (λ constant. Ok (var_with w rep constant)) v then_constant (λ constant constant_found whole.
    let begun : o ≡ new_var g.0.number (unescaped (operand g.0.bytes)) = opened_as vs g.0 o open_is in
    let name_kept : w.name ≡ o.name = same_kept (var_line implicit es) (λ x. x.name) (λ o m l h. (step implicit es o m l h).name) o w g.1 lines_are in
    let reps : w.rep ≡ last_rep_type g.1 =
    last_kept (var_line implicit es) (λ x. x.rep) rep_type_at (λ l. begins (codes "rep-type") l.bytes) None (λ o m l h. (step implicit es o m l h).rep) o w g.1 None
    (ap (λ x. x.rep) begun) lines_are ∙ or_none rep_type_at (last_line (codes "rep-type") g.1) in
    let constants : w.constant ≡ last_constant g.1 =
    last_kept (var_line implicit es) (λ x. x.constant) (λ l. Some (constant_in l)) (λ l. begins (codes "constant") l.bytes) None (λ o m l h. (step implicit es o m l h).constant) o w g.1 None
    (ap (λ x. x.constant) begun) lines_are ∙ mapped_or_none constant_in (last_line (codes "constant") g.1) in
    let compars : w.compar ≡ (if implicit then last_compar g.1 else no_compar) = compar_kept implicit es o w g.1 (ap (λ x. x.compar) begun) lines_are in
    let counted : w.parents ≡ o.parents ++ flat_map (counterparts_at es o.name) (lines_of (codes "parent") g.1) = parents_kept implicit es o w g.1 lines_are in
    let rep_is : last_rep_type g.1 ≡ Some rep = sym reps ∙ or_refused_ok w.line w.rep rep rep_found in
    let v_is : v ≡ var_with w rep constant = cc in
    let own : v.name ≡ o.name = ap (λ x. x.name) v_is ∙ name_kept in
    record {
      name = own ∙ ap (λ x. x.name) begun;
      kind = ap (option_map rep_kind) rep_is ∙ ap (λ x. Some x.kind) (sym v_is);
      compar = ap (λ x. x.compar) v_is ∙ compars;
      constant = ap (option_map (λ r. constant_at r (last_constant g.1))) rep_is ∙ ap (λ c. Some (constant_at rep c)) (sym constants) ∙ ap Some (constant_found ∙ ap (λ x. Ok x.constant) (sym v_is));
      constant_line = ap (λ x. x.constant_line) v_is ∙ ap is_some constants;
      parents = ap (λ x. x.parents) v_is ∙ counted ∙ ap (λ x. x.parents ++ flat_map (counterparts_at es o.name) (lines_of (codes "parent") g.1)) begun
          ∙ ap (λ n. flat_map (counterparts_at es n) (lines_of (codes "parent") g.1)) (sym own);
    }))

ended : (gs : List (Line × List Line)) (close : ℕ) → has_ended gs (Some close) ≡ true
ended [] close = refl
ended (g ∷ gs) close = refl

-- the variables behind those that are there are what their lines say
declared_in_order : (implicit : Bool) (es : List EdgeDecl) (vs : List VarDecl) (gs : List (Line × List Line)) (close : ℕ) (ws : List VarDecl)
    → vars_after implicit es vs gs (Some close) ≡ Ok ws → (more : List VarDecl) × (ws ≡ vs ++ more) × AllZip (IsDeclaredBy implicit es) gs more
unfolding with_var
declared_in_order implicit es vs [] close ws e = ([], same_ok (Ok vs) vs ws refl e ∙ sym (append-nil vs), tt)
declared_in_order implicit es vs (g ∷ gs) close ws e =
    bind_ok (open_var vs g.0) (λ o. each_line (var_line implicit es) o g.1 >>= λ w. with_var vs w (has_ended gs (Some close)) >>= λ more. vars_after implicit es more gs (Some close)) ws e (λ o open_is e1.
    bind_ok (each_line (var_line implicit es) o g.1) (λ w. with_var vs w (has_ended gs (Some close)) >>= λ more. vars_after implicit es more gs (Some close)) ws e1 (λ w lines_are e2.
    bind_ok (with_var vs w (has_ended gs (Some close))) (λ more. vars_after implicit es more gs (Some close)) ws e2 (λ longer with_is e3.
    bind_ok (var_decl_of w) (λ v. Ok (vs ++ v ∷ [])) longer (ap (with_var vs w) (sym (ended gs close)) ∙ with_is) (λ v closed_is longer_is.
    let rest = declared_in_order implicit es longer gs close ws e3 in
    let longer_as : longer ≡ vs ++ v ∷ [] = cc in
    (v ∷ rest.0, rest.1 ∙ ap (λ l. l ++ rest.0) longer_as ∙ append_assoc vs (v ∷ []) rest.0, (declared_by implicit es vs g o w v open_is lines_are closed_is, rest.2))))))

pub last_lines_count : LastLinesCount
unfolding ppt_of ppt_lines
last_lines_count implicit first ls close d e =
    bind_ok (point_name first) (λ name. each_line head_line [] (groups ls).0 >>= λ es. point_with name es (vars_after implicit es [] (groups ls).1 (Some close))) d e (λ name name_is e1.
    bind_ok (each_line head_line [] (groups ls).0) (λ es. point_with name es (vars_after implicit es [] (groups ls).1 (Some close))) d e1 (λ es edges_are e2.
    bind_ok (vars_after implicit es [] (groups ls).1 (Some close)) (λ vs. Ok (record { name = name; edges = es; vars = vs })) d e2 (λ vs vars_are whole.
    let found = declared_in_order implicit es [] (groups ls).1 close vs vars_are in
    let edges_same : es ≡ d.edges = cc in
    let vars_same : found.0 ≡ d.vars = cc in
    let P : List EdgeDecl → Type 0 = λ es. AllZip (IsDeclaredBy implicit es) (groups ls).1 d.vars in
    let Q : List VarDecl → Type 0 = λ vs. AllZip (IsDeclaredBy implicit es) (groups ls).1 vs in
    subst P edges_same (subst Q vars_same found.2))))
