-- What is gathered of a file.
use Rattle.std.proofs.Common.{◌≡◌, ◌≤◌, ◌∙◌, ◌∷◌, ◌++◌, [], ℕ, Bool, true, false, List, Option, Some, None, append_assoc, append-nil, length, refl, sym, ap, subst, arith, if◌then◌else◌}
use Rattle.std.specs.Prelude.{nat_lt}
use Rattle.std.specs.Io.KnownBytes.{IsAtEnd, prepend_known}
use Rattle.std.proofs.lemmas.Bool.{ltb-false}
use Rattle.csv.specs.Reading.{is_bom, strip_bom}
use Rattle.dk_io.specs.Outside.{HeldFile, Untold, Absent, Holds, Rose, Starts}
use Rattle.dk_table.specs.Streams.Pieces.{FillsSays, IsGathered, without_mark}
use Rattle.dk_table.specs.declared.streaming.filling.Filled.{Filled}
use Rattle.dk_table.specs.declared.streaming.filling.Filled.TheVariants.{Full, Ended, Failed}

-- ---- what is left of a file that is told
left_of : (bytes got : List ℕ) (before after : Option (List ℕ)) → before ≡ Some bytes → before ≡ prepend_known got after
    → (left : List ℕ) × (after ≡ Some left) × (bytes ≡ got ++ left)
left_of bytes got before None is e = let none : Some bytes ≡ prepend_known got None = sym is ∙ e in absurd (cc none)
left_of bytes got before (Some left) is e =
    let some : Some bytes ≡ Some (got ++ left) = sym is ∙ e in (left, refl, cc some)

none_left : (left : List ℕ) (rest : Option (List ℕ)) → rest ≡ Some left → IsAtEnd rest → left ≡ []
none_left left None is at = absurd (cc is)
none_left left (Some other) is at = let same : other ≡ left = cc is in sym same ∙ at

-- ---- a mark in front
long_split : (got left : List ℕ) → 3 ≤ length got → strip_bom (got ++ left) ≡ strip_bom got ++ left
unfolding strip_bom
long_split [] left long = absurd (omega arith)
long_split (a ∷ []) left long = absurd (omega arith)
long_split (a ∷ b ∷ []) left long = absurd (omega arith)
long_split (a ∷ b ∷ c ∷ rest) left long = by (is_bom a b c)
  where
    by : (m : Bool) → (if m then rest ++ left else a ∷ b ∷ c ∷ (rest ++ left)) ≡ (if m then rest else a ∷ b ∷ c ∷ rest) ++ left
    by true = refl
    by false = refl

-- ---- a file that is opened
pub opened : (filled : Filled) (held : HeldFile) (start text : List ℕ) (before after : Option (List ℕ)) (rose : Type 0)
    → start ≡ [] → Starts held before → FillsSays start text before after rose filled → IsGathered filled held (without_mark filled text) after rose
opened Full Untold start text before after rose none starts fills = tt
opened Full Absent start text before after rose none starts fills = starts
opened Full (Holds bytes) start text before after rose none starts (got, is, e, long) =
    let (left, rest, split) = left_of bytes got before after starts e in
    let same : text ≡ got = is ∙ ap (λ (l : List ℕ). l ++ got) none in
    let own : 3 ≤ length got = subst (λ (l : List ℕ). 3 ≤ length l) same long in
    (left, rest, ap strip_bom split ∙ long_split got left own ∙ ap (λ (l : List ℕ). strip_bom l ++ left) (sym same))
opened Ended Untold start text before after rose none starts fills = tt
opened Ended Absent start text before after rose none starts fills = starts
opened Ended (Holds bytes) start text before after rose none starts (got, is, e, at) =
    let (left, rest, split) = left_of bytes got before after starts e in
    let same : text ≡ got = is ∙ ap (λ (l : List ℕ). l ++ got) none in
    ap strip_bom (split ∙ ap (λ (l : List ℕ). got ++ l) (none_left left after rest at) ∙ append-nil got ∙ sym same)
opened Failed Untold start text before after rose none starts (got, is, e, why) = why
opened Failed Absent start text before after rose none starts fills = starts
opened Failed (Holds bytes) start text before after rose none starts (got, is, e, why) = (why, by (nat_lt (length text) 3) refl)
  where
    by : (short : Bool) → nat_lt (length text) 3 ≡ short → (rest : List ℕ) × (strip_bom bytes ≡ (if short then [] else strip_bom text) ++ rest)
    by true is_short = (strip_bom bytes, refl)
    by false is_long =
        let (left, rest, split) = left_of bytes got before after starts e in
        let same : text ≡ got = is ∙ ap (λ (l : List ℕ). l ++ got) none in
        let own : 3 ≤ length got = subst (λ (l : List ℕ). 3 ≤ length l) same (ltb-false (length text) 3 is_long) in
        (left, ap strip_bom split ∙ long_split got left own ∙ ap (λ (l : List ℕ). strip_bom l ++ left) (sym same))

-- a text of the same length has no mark
pub unmarked : (text : List ℕ) → length (strip_bom text) ≡ length text → strip_bom text ≡ text
unfolding strip_bom
unmarked [] same = refl
unmarked (a ∷ []) same = refl
unmarked (a ∷ b ∷ []) same = refl
unmarked (a ∷ b ∷ c ∷ rest) same = by (is_bom a b c) same
  where
    by : (m : Bool) → length (if m then rest else a ∷ b ∷ c ∷ rest) ≡ length (a ∷ b ∷ c ∷ rest) → (if m then rest else a ∷ b ∷ c ∷ rest) ≡ a ∷ b ∷ c ∷ rest
    by true short = absurd (omega (arith, short))
    by false long = refl

-- what rose since a later moment rose since an earlier one
pub gathered_since : (filled : Filled) (held : HeldFile) (text : List ℕ) (rest : Option (List ℕ)) (early late : Type 0) → (late → early)
    → IsGathered filled held text rest late → IsGathered filled held text rest early
gathered_since Full Untold text rest early late since h = tt
gathered_since Full Absent text rest early late since h = h
gathered_since Full (Holds bytes) text rest early late since h = h
gathered_since Ended Untold text rest early late since h = tt
gathered_since Ended Absent text rest early late since h = h
gathered_since Ended (Holds bytes) text rest early late since h = h
gathered_since Failed Untold text rest early late since h = since h
gathered_since Failed Absent text rest early late since h = h
gathered_since Failed (Holds bytes) text rest early late since h = (since h.0, h.1)

pub rose_before : (a b c : ℕ) → a ≤ b → Rose b c → Rose a c
rose_before a b c before rose = omega (arith, before, rose)

-- ---- more of it
pub gathered_more : (filled : Filled) (held : HeldFile) (gone text new : List ℕ) (before after : Option (List ℕ)) (early late : Type 0)
    → IsGathered Full held (gone ++ text) before early → FillsSays text new before after late filled → IsGathered filled held (gone ++ new) after late
gathered_more Full Untold gone text new before after early late so_far fills = tt
gathered_more Full Absent gone text new before after early late so_far fills = so_far
gathered_more Full (Holds bytes) gone text new before after early late (left, rest, split) (got, is, e, long) =
    let (more, after_is, parts) = left_of left got before after rest e in
    (more, after_is, split ∙ ap (λ (l : List ℕ). (gone ++ text) ++ l) parts ∙ joined gone text got more new is)
  where
    joined : (gone text got more new : List ℕ) → new ≡ text ++ got → (gone ++ text) ++ (got ++ more) ≡ (gone ++ new) ++ more
    joined gone text got more new is =
        append_assoc gone text (got ++ more) ∙ ap (λ (l : List ℕ). gone ++ l) (sym (append_assoc text got more) ∙ ap (λ (l : List ℕ). l ++ more) (sym is))
        ∙ sym (append_assoc gone new more)
gathered_more Ended Untold gone text new before after early late so_far fills = tt
gathered_more Ended Absent gone text new before after early late so_far fills = so_far
gathered_more Ended (Holds bytes) gone text new before after early late (left, rest, split) (got, is, e, at) =
    let (more, after_is, parts) = left_of left got before after rest e in
    let all : left ≡ got = parts ∙ ap (λ (l : List ℕ). got ++ l) (none_left more after after_is at) ∙ append-nil got in
    split ∙ append_assoc gone text left ∙ ap (λ (l : List ℕ). gone ++ (text ++ l)) all ∙ ap (λ (l : List ℕ). gone ++ l) (sym is)
gathered_more Failed Untold gone text new before after early late so_far (got, is, e, why) = why
gathered_more Failed Absent gone text new before after early late so_far fills = so_far
gathered_more Failed (Holds bytes) gone text new before after early late (left, rest, split) (got, is, e, why) =
    let (more, after_is, parts) = left_of left got before after rest e in
    (why, (more, split ∙ ap (λ (l : List ℕ). (gone ++ text) ++ l) parts ∙ joined gone text got more new is))
  where
    joined : (gone text got more new : List ℕ) → new ≡ text ++ got → (gone ++ text) ++ (got ++ more) ≡ (gone ++ new) ++ more
    joined gone text got more new is =
        append_assoc gone text (got ++ more) ∙ ap (λ (l : List ℕ). gone ++ l) (sym (append_assoc text got more) ∙ ap (λ (l : List ℕ). l ++ more) (sym is))
        ∙ sym (append_assoc gone new more)

-- ---- rows that are cut off
pub gathered_cut : (filled : Filled) (held : HeldFile) (gone text rows behind : List ℕ) (rest : Option (List ℕ)) (rose : Type 0)
    → text ≡ rows ++ behind → IsGathered filled held (gone ++ text) rest rose → IsGathered filled held ((gone ++ rows) ++ behind) rest rose
gathered_cut filled held gone text rows behind rest rose is so_far =
    subst (λ (l : List ℕ). IsGathered filled held l rest rose) (ap (λ (l : List ℕ). gone ++ l) is ∙ sym (append_assoc gone rows behind)) so_far
