-- Records that stand whole at the front of some bytes.
use Rattle.std.proofs.Common.{◌≡◌, ◌≤◌, ◌<◌, ◌+◌, ◌-◌, ◌++◌, ◌∙◌, ℕ, ℤ, zero, suc, Bool, true, false, ◌||◌, ◌⊎◌, inl, inr, List, [], ◌∷◌, codes, length, take, drop, get_or, Option, Some, None, Result, Ok, Err, IfOk, IfSome, refl, sym, ap, subst, arith, append_assoc, length-append, if◌then◌else◌}
use Rattle.std.specs.Prelude.{nat_lt, slice_get}
use Rattle.std.specs.Str.{bytes_eq}
use Rattle.std.proofs.Math.Seq.{take-append_seam}
use Rattle.std.proofs.lemmas.Bool.{false_from_ne_true, ltb-true}
use Rattle.std.proofs.lemmas.Grind.{flat_map-append}
use Rattle.std.proofs.lemmas.List.{append-nil, drop_all}
use Rattle.std.proofs.lemmas.List.Elements.{All-append, All-cons, All-nil}
use Rattle.std.proofs.lemmas.List.Sums.{AllPass-from_list_all}
use Rattle.std.proofs.lemmas.Slice.Eq.{bytes_eq-Decides}
use Rattle.dk_base.specs.Names.{unescaped}
use Rattle.dk_base.specs.Numbers.{integer_of}
use Rattle.dk_base.specs.Reading.{Line, LineFault, Reads, ◌>>=◌}
use Rattle.dk_base.specs.Values.{value_of_text, values_of as shown_by}
use Rattle.dk_base.specs.declared.kinds.Kind.{Kind}
use Rattle.dk_base.specs.declared.kinds.Kind.TheVariants as kind
use Rattle.dk_base.specs.declared.values.Value.{Value}
use Rattle.dk_base.specs.declared.values.View.TheVariants as view
use Rattle.dk_base.specs.declared.why.Why.TheVariants.{BadMark, BadNonce, BadValue}
use Rattle.dk_decl.specs.Outcomes.{or_refused, refused}
use Rattle.dk_decl.specs.declared.decls.VarDecl.{VarDecl}
use Rattle.dk_lines.specs.Passing.{joined, numbered_lines}
use Rattle.dk_points.specs.Table.{Point}
use Rattle.dk_trace.specs.Bodies.{body_of, body_with, is_nonce_line, nonce_of}
use Rattle.dk_trace.specs.Marks.{marked_value, no_value, read_value}
use Rattle.dk_trace.specs.MarksResumed.{missing_of, said_by, with_mark}
use Rattle.dk_trace.specs.Records.{point_named_by, sample_of, sample_with, var_decls_at}
use Rattle.dk_trace.specs.Values.{IsTold, from_value, known_values, named_kind, record_values, then_values}
use Rattle.dk_trace.specs.Whole.{AreCut, BodyStands, IsCut, IsTidy, MarkStands, NumberStands, StandsWhole, TextStands, ValuesSoFar, ValuesStand, VariableStands}
use Rattle.dk_trace.specs.declared.marks.Unmarked.{Unmarked}
use Rattle.dk_trace.specs.declared.marks.Unmarked.TheVariants as unmarked
use Rattle.dk_trace.specs.declared.whole.Whole.{Whole}
use Rattle.dk_trace.proofs.Joined.{then_values_append, then_values_nil}
use Rattle.dk_trace.proofs.Left.{constant_next, told_next}
use Rattle.dk_trace.proofs.Tidy.{tidy_plain}

-- ---- what is read

pub if_read : {A E : Type 0} {P Q : A → Type 0} (r : Result (Option A) E) → ((x : A) → P x → Q x) → IfOk r (λ o. IfSome o P) → IfOk r (λ o. IfSome o Q)
if_read (Ok (Some x)) f p = f x p
if_read (Ok None) f p = tt
if_read (Err e) f p = tt

-- ---- lines behind lines

numbered_append : (n : ℕ) (a b : List (List ℕ)) (ls : List Line) → numbered_lines n (a ++ b) ++ ls ≡ numbered_lines n a ++ (numbered_lines (n + length a) b ++ ls)
numbered_append n [] b ls = ap (λ (m : ℕ). numbered_lines m b ++ ls) (omega arith)
numbered_append n (x ∷ a) b ls =
    let next : n + 1 + length a ≡ n + length (x ∷ a) = omega arith in
    ap (λ (l : List Line). record { number = n; bytes = x } ∷ l)
    (numbered_append (n + 1) a b ls ∙ ap (λ (m : ℕ). numbered_lines (n + 1) a ++ (numbered_lines m b ++ ls)) next)

cut_append : (bytes between rest : List ℕ) (a b : List (List ℕ)) → AreCut bytes a between → AreCut between b rest → AreCut bytes (a ++ b) rest
cut_append bytes between rest a b front back = record {
  whole = front.whole ∙ ap (λ (l : List ℕ). joined a ++ l) back.whole ∙ sym (append_assoc (joined a) (joined b) rest)
      ∙ ap (λ (l : List ℕ). l ++ rest) (sym (flat_map-append (λ (l : List ℕ). l ++ 10 ∷ []) a b));
  tidy = All-append IsTidy a b front.tidy back.tidy;
}

cut_one : (bytes line rest : List ℕ) → IsCut bytes line rest → AreCut bytes (line ∷ []) rest
cut_one bytes line rest cut = record {
  whole = cut.whole ∙ sym (append_assoc line (10 ∷ []) rest) ∙ ap (λ (l : List ℕ). l ++ rest) (sym (append-nil (line ++ 10 ∷ [])));
  tidy = All-cons IsTidy line [] cut.tidy (All-nil IsTidy);
}

-- ---- one variable

-- what a text says does not hang on its line's number, if it says something
said_anywhere : (k : Option Kind) (n : ℕ) (text : List ℕ) (front : List Value) → read_value k (record { number = 0; bytes = text }) ≡ Ok front → read_value k (record { number = n; bytes = text }) ≡ Ok front
unfolding read_value
said_anywhere None n text front e = e
said_anywhere (Some k) n text front e = on (value_of_text k text) e
  where
    on : (o : Option Value) → (or_refused BadValue 0 o >>= λ v. Ok (v ∷ [])) ≡ Ok front → (or_refused BadValue n o >>= λ v. Ok (v ∷ [])) ≡ Ok front
    on None e = absurd (cc (e))
    on (Some v) e = e

marked_anywhere : (k : Option Kind) (n : ℕ) (text : List ℕ) (mark : Line) (front : List Value) → marked_value k (record { number = 0; bytes = text }) mark ≡ Ok front
    → marked_value k (record { number = n; bytes = text }) mark ≡ Ok front
unfolding marked_value
marked_anywhere k n text mark front e = by (bytes_eq mark.bytes (codes "2")) (bytes_eq mark.bytes (codes "0") || bytes_eq mark.bytes (codes "1")) e
  where
    by : (missing said : Bool) → (if missing then Ok (no_value k) else if said then read_value k (record { number = 0; bytes = text }) else refused BadMark mark.number) ≡ Ok front
        → (if missing then Ok (no_value k) else if said then read_value k (record { number = n; bytes = text }) else refused BadMark mark.number) ≡ Ok front
    by true said e = e
    by false true e = said_anywhere k n text front e
    by false false e = e

pub text_of_number : (bytes rest : List ℕ) (z : ℤ) → NumberStands bytes z rest → TextStands (Some kind.Int) bytes (unmarked.Value (view.Int z)) rest
unfolding marked_value read_value with_mark
text_of_number bytes rest z number = record {
  text = number.text;
  cut = number.cut;
  says = λ mark. rw number.says refl;
}

-- ---- a mark

one_cut : (bytes rest : List ℕ) (m : ℕ) → 32 < m → bytes ≡ m ∷ 10 ∷ rest → IsCut bytes (m ∷ []) rest
one_cut bytes rest m high whole = record { whole = whole; tidy = tidy_plain (m ∷ []) (omega arith) above }
  where
    above : (k : ℕ) → k < length (m ∷ []) → 32 < get_or (m ∷ []) k 0
    above zero lt = high
    above (suc k) lt = absurd (omega (arith, lt))

pub missing_stands : (u : Unmarked) (bytes rest : List ℕ) (m : ℕ) (values : List Value) → m ≡ 50 → bytes ≡ m ∷ 10 ∷ rest → values ≡ missing_of u → MarkStands u bytes values rest
unfolding with_mark
missing_stands u bytes rest m values two whole is = record {
  mark = 50 ∷ [];
  cut = one_cut bytes rest 50 (omega arith) (whole ∙ ap (λ (b : ℕ). b ∷ 10 ∷ rest) two);
  says = λ n. ap (λ (xs : List Value). Ok xs) (sym is);
}

said_with : (u : Unmarked) (bytes rest : List ℕ) (m : ℕ) (values : List Value) → (m ≡ 48) ⊎ (m ≡ 49) → said_by u ≡ Ok values → (n : ℕ) → with_mark u (record { number = n; bytes = m ∷ [] }) ≡ Ok values
unfolding with_mark
said_with u bytes rest m values (inl zero_mark) says n = rw zero_mark says
said_with u bytes rest m values (inr one_mark) says n = rw one_mark says

pub said_stands : (u : Unmarked) (bytes rest : List ℕ) (m : ℕ) (values : List Value) → (m ≡ 48) ⊎ (m ≡ 49) → bytes ≡ m ∷ 10 ∷ rest → said_by u ≡ Ok values → MarkStands u bytes values rest
said_stands u bytes rest m values is whole says = record {
  mark = m ∷ [];
  cut = one_cut bytes rest m (high is) whole;
  says = said_with u bytes rest m values is says;
}
  where
    high : (m ≡ 48) ⊎ (m ≡ 49) → 32 < m
    high (inl e) = omega (arith, e)
    high (inr e) = omega (arith, e)

-- ---- a variable

named_so : (v : VarDecl) (n : ℕ) → unescaped v.name ≡ v.name → named_kind v (record { number = n; bytes = v.name }) ≡ Ok v.kind
unfolding named_kind
named_so v n means = let is : bytes_eq (unescaped v.name) v.name ≡ true = (bytes_eq-Decides (unescaped v.name) v.name).1 means in rw is refl

pub variable_stands : (v : VarDecl) (bytes behind_name behind_text rest : List ℕ) (u : Unmarked) (old new front : List Value)
    → unescaped v.name ≡ v.name → IsCut bytes v.name behind_name → TextStands v.kind behind_name u behind_text → MarkStands u behind_text front rest
    → new ≡ old ++ front → VariableStands v bytes old new rest
variable_stands v bytes behind_name behind_text rest u old new front means name text mark added = record {
  lines = v.name ∷ text.text ∷ mark.mark ∷ [];
  front = front;
  cut = cut_append bytes behind_name rest (v.name ∷ []) (text.text ∷ mark.mark ∷ []) (cut_one bytes v.name behind_name name)
      (cut_append behind_name behind_text rest (text.text ∷ []) (mark.mark ∷ []) (cut_one behind_name text.text behind_text text.cut) (cut_one behind_text mark.mark rest mark.cut));
  three = refl;
  added = added;
  reads = λ others n ls close.
      let last : Line = record { number = n + 1 + 1; bytes = mark.mark } in
      let said : marked_value v.kind (record { number = n + 1; bytes = text.text }) last ≡ Ok front = marked_anywhere v.kind (n + 1) text.text last front (text.says last ∙ mark.says (n + 1 + 1)) in
      ap (λ (r : Result (Option Kind) LineFault). r >>= λ k. from_value k others (record { number = n + 1; bytes = text.text } ∷ last ∷ ls) close) (named_so v n means)
      ∙ ap (λ (r : Result (List Value) LineFault). r >>= λ front. then_values front (others ls close)) said;
}

-- ---- the variables in order

pub begun : (vs : List VarDecl) (bytes : List ℕ) → ValuesSoFar vs 0 bytes [] bytes 0
begun vs bytes = record {
  lines = [];
  cut = record { whole = refl; tidy = All-nil IsTidy };
  many = refl;
  reads = λ n ls close. sym (then_values_nil (record_values vs ls close));
}

pub constant_more : (vs : List VarDecl) (i : ℕ) (v : VarDecl) (bytes rest : List ℕ) (old new : List Value) (count : ℕ) → slice_get vs i ≡ Some v → v.constant_line ≡ true
    → new ≡ old ++ known_values v.constant → ValuesSoFar vs i bytes old rest count → ValuesSoFar vs (i + 1) bytes new rest count
constant_more vs i v bytes rest old new count at has added so_far = record {
  lines = so_far.lines;
  cut = so_far.cut;
  many = so_far.many;
  reads = λ n ls close. so_far.reads n ls close ∙ constant_next vs i v old new ls close at has added;
}

told_here : (vs : List VarDecl) (i : ℕ) (v : VarDecl) → slice_get vs i ≡ Some v → v.constant_line ≡ false → IfSome (slice_get vs i) IsTold
told_here vs i v at told = subst (λ (o : Option VarDecl). IfSome o IsTold) (sym at) told

pub variable_more : (vs : List VarDecl) (i : ℕ) (v : VarDecl) (bytes left rest : List ℕ) (old new : List Value) (count : ℕ) → slice_get vs i ≡ Some v → v.constant_line ≡ false
    → VariableStands v left old new rest → ValuesSoFar vs i bytes old left count → ValuesSoFar vs (i + 1) bytes new rest (count + 3)
variable_more vs i v bytes left rest old new count at told stands so_far = record {
  lines = so_far.lines ++ stands.lines;
  cut = cut_append bytes left rest so_far.lines stands.lines so_far.cut stands.cut;
  many = omega (arith, so_far.many, stands.three, length-append so_far.lines stands.lines);
  reads = λ n ls close.
      let m : ℕ = n + length so_far.lines in
      let others : Reads (List Value) = record_values (drop (i + 1) vs) in
      ap (λ (l : List Line). record_values vs l close) (numbered_append n so_far.lines stands.lines ls)
      ∙ so_far.reads n (numbered_lines m stands.lines ++ ls) close
      ∙ ap (then_values old) (told_next vs i v (numbered_lines m stands.lines ++ ls) close (told_here vs i v at told) at ∙ stands.reads others m ls close)
      ∙ then_values_append old stands.front (others ls close)
      ∙ ap (λ (xs : List Value). then_values xs (others ls close)) (sym stands.added);
}

-- how many lines there can be
joined_many : (ls : List (List ℕ)) → length ls ≤ length (joined ls)
joined_many [] = omega arith
joined_many (l ∷ ls) = omega (arith, joined_many ls, length-append (l ++ 10 ∷ []) (joined ls), length-append l (10 ∷ []))

pub count_within : (vs : List VarDecl) (i : ℕ) (bytes rest : List ℕ) (values : List Value) (count : ℕ) → ValuesSoFar vs i bytes values rest count → count + length rest ≤ length bytes
count_within vs i bytes rest values count so_far =
    omega (arith, so_far.many, joined_many so_far.lines, ap length so_far.cut.whole, length-append (joined so_far.lines) rest)

nothing_left : (vs : List VarDecl) (i : ℕ) (close : Option ℕ) → length vs ≤ i → record_values (drop i vs) [] close ≡ Ok []
nothing_left vs i close past = ap (λ (ws : List VarDecl). record_values ws [] close) (drop_all i vs past)

pub values_stand : (vs : List VarDecl) (i : ℕ) (bytes rest : List ℕ) (values : List Value) (count : ℕ) → length vs ≤ i → ValuesSoFar vs i bytes values (10 ∷ rest) count
    → ValuesStand vs bytes values rest count
values_stand vs i bytes rest values count past so_far = record {
  lines = so_far.lines;
  cut = so_far.cut;
  many = so_far.many;
  reads = λ n close.
      ap (λ (l : List Line). record_values vs l close) (sym (append-nil (numbered_lines n so_far.lines)))
      ∙ so_far.reads n [] close
      ∙ ap (then_values values) (nothing_left vs i close past)
      ∙ ap (λ (xs : List Value). Ok xs) (append-nil values);
}

-- ---- the nonce

abbrev pub nonce_text : List ℕ
nonce_text = codes "this_invocation_nonce"

tidy_nonce : IsTidy nonce_text
tidy_nonce = tidy_plain nonce_text (omega arith) (λ k lt. ltb-true 32 (get_or nonce_text k 0) (AllPass-from_list_all (λ (b : ℕ). nat_lt 32 b) nonce_text refl k 0 lt))

-- the first line is no nonce's
no_nonce : (vs : List VarDecl) (bytes rest : List ℕ) (lines : List (List ℕ)) → ((rest : List ℕ) → bytes ≡ nonce_text ++ 10 ∷ rest → ⊥) → bytes ≡ joined lines ++ rest
    → (n : ℕ) (close : Option ℕ) → body_of vs (numbered_lines n lines) close ≡ body_with None (record_values vs (numbered_lines n lines) close)
unfolding body_of is_nonce_line
no_nonce vs bytes rest [] none whole n close = refl
no_nonce vs bytes rest (l ∷ ls) none whole n close =
    let differs : bytes_eq l nonce_text ≡ false = false_from_ne_true (bytes_eq l nonce_text) (λ same.
    none (joined ls ++ rest) (whole ∙ append_assoc (l ++ 10 ∷ []) (joined ls) rest ∙ append_assoc l (10 ∷ []) (joined ls ++ rest)
    ∙ ap (λ (t : List ℕ). t ++ 10 ∷ (joined ls ++ rest)) ((bytes_eq-Decides l nonce_text).0 same))) in
    rw differs refl

pub body_plain : (vs : List VarDecl) (bytes rest : List ℕ) (values : List Value) (count : ℕ) → ((rest : List ℕ) → bytes ≡ nonce_text ++ 10 ∷ rest → ⊥)
    → ValuesStand vs bytes values rest count → BodyStands vs bytes None values rest count
body_plain vs bytes rest values count none stands = record {
  lines = stands.lines;
  cut = stands.cut;
  many = stands.many;
  reads = λ n close. no_nonce vs bytes (10 ∷ rest) stands.lines none stands.cut.whole n close ∙ ap (body_with None) (stands.reads n close);
}

with_nonce : (vs : List VarDecl) (text : List ℕ) (lines : List (List ℕ)) (nonce : ℤ) (values : List Value) → integer_of text ≡ Some nonce
    → ((n : ℕ) (close : Option ℕ) → record_values vs (numbered_lines n lines) close ≡ Ok values)
    → (n : ℕ) (close : Option ℕ) → body_of vs (numbered_lines n (nonce_text ∷ text ∷ lines)) close ≡ Ok (record { nonce = Some nonce; values = values })
unfolding body_of is_nonce_line nonce_of
with_nonce vs text lines nonce values is reads n close =
    ap (λ (o : Option ℤ). or_refused BadNonce (n + 1) o >>= λ z. body_with (Some z) (record_values vs (numbered_lines (n + 1 + 1) lines) close)) is
    ∙ ap (body_with (Some nonce)) (reads (n + 1 + 1) close)

pub body_nonce : (vs : List VarDecl) (bytes number behind rest text : List ℕ) (nonce : ℤ) (values : List Value) (count more : ℕ) → bytes ≡ nonce_text ++ 10 ∷ number → IsCut number text behind
    → integer_of text ≡ Some nonce → more ≡ count + 2 → ValuesStand vs behind values rest count → BodyStands vs bytes (Some nonce) values rest more
body_nonce vs bytes number behind rest text nonce values count more whole cut is two stands = record {
  lines = nonce_text ∷ text ∷ stands.lines;
  cut = cut_append bytes number (10 ∷ rest) (nonce_text ∷ []) (text ∷ stands.lines) (cut_one bytes nonce_text number (record { whole = whole; tidy = tidy_nonce }))
      (cut_append number behind (10 ∷ rest) (text ∷ []) stands.lines (cut_one number text behind cut) stands.cut);
  many = omega (arith, two, stands.many);
  reads = with_nonce vs text stands.lines nonce values is stands.reads;
}

pub body_within : (vs : List VarDecl) (bytes rest : List ℕ) (nonce : Option ℤ) (values : List Value) (count : ℕ) → BodyStands vs bytes nonce values rest count → count + 1 + length rest ≤ length bytes
body_within vs bytes rest nonce values count stands =
    omega (arith, stands.many, joined_many stands.lines, ap length stands.cut.whole, length-append (joined stands.lines) (10 ∷ rest))

pub cut_within : (bytes line rest : List ℕ) → IsCut bytes line rest → length line + 1 + length rest ≡ length bytes
cut_within bytes line rest cut = omega (arith, ap length cut.whole, length-append line (10 ∷ rest))

pub values_within : (vs : List VarDecl) (bytes rest : List ℕ) (values : List Value) (count : ℕ) → ValuesStand vs bytes values rest count → count + 1 + length rest ≤ length bytes
values_within vs bytes rest values count stands =
    omega (arith, stands.many, joined_many stands.lines, ap length stands.cut.whole, length-append (joined stands.lines) (10 ∷ rest))

-- ---- the whole record

sample_here : (ps : List Point) (n p : ℕ) (first : List ℕ) (lines : List (List ℕ)) (nonce : Option ℤ) (values : List Value) (close : Option ℕ) → point_named_by ps (record { number = n; bytes = first }) ≡ Ok p
    → body_of (var_decls_at ps p) (numbered_lines (n + 1) lines) close ≡ Ok (record { nonce = nonce; values = values })
    → sample_of ps (record { number = n; bytes = first }) (numbered_lines (n + 1) lines) close ≡ Ok (record { point = p; line = n; nonce = nonce; values = values })
unfolding sample_of
sample_here ps n p first lines nonce values close named reads =
    ap (λ (r : Result ℕ LineFault). r >>= λ p. sample_with p n (body_of (var_decls_at ps p) (numbered_lines (n + 1) lines) close)) named
    ∙ ap (sample_with p n) reads

pub stands_whole : (ps : List Point) (n : ℕ) (bytes first behind rest : List ℕ) (w : Whole) (count : ℕ) → IsCut bytes first behind
    → point_named_by ps (record { number = n; bytes = first }) ≡ Ok w.sample.point.0 → w.sample.point.0 < length ps
    → BodyStands (var_decls_at ps w.sample.point.0) behind w.sample.nonce (shown_by w.sample.values.now) rest count
    → w.sample.line ≡ n → w.first_len ≡ length first → w.used ≡ length bytes - length rest → w.count ≡ count + 2 → StandsWhole ps n bytes w
stands_whole ps n bytes first behind rest w count cut named in_table body line first_len used many =
    let all = cut_append bytes behind (10 ∷ rest) (first ∷ []) body.lines (cut_one bytes first behind cut) body.cut in
    let front : List ℕ = joined (first ∷ body.lines) ++ 10 ∷ [] in
    let parted : bytes ≡ front ++ rest = all.whole ∙ sym (append_assoc (joined (first ∷ body.lines)) (10 ∷ []) rest) in
    let len : w.used ≡ length front = omega (arith, used, ap length parted, length-append front rest) in
    record {
      first = first;
      rest = body.lines;
      cut = ap (λ (k : ℕ). take k bytes) len ∙ ap (take (length front)) parted ∙ take-append_seam front rest;
      within = omega (arith, used);
      tidy = all.tidy;
      front = ap (λ (k : ℕ). take k bytes) first_len ∙ ap (take (length first)) cut.whole ∙ take-append_seam first (10 ∷ behind);
      front_within = omega (arith, first_len, ap length cut.whole, length-append first (10 ∷ behind));
      many = omega (arith, many, body.many);
      in_table = in_table;
      reads = sample_here ps n w.sample.point.0 first body.lines w.sample.nonce (shown_by w.sample.values.now) (Some (n + 1 + length body.lines)) named (body.reads (n + 1) (Some (n + 1 + length body.lines)))
          ∙ ap (λ (l : ℕ). Ok (record { point = w.sample.point.0; line = l; nonce = w.sample.nonce; values = shown_by w.sample.values.now })) (sym line);
    }
