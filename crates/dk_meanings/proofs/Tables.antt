-- What the rows say agrees with the table of the rows.
use Rattle.std.specs.Prelude.{◌≡◌, ◌<◌, ℕ, zero, suc, List, [], ◌∷◌, All, length, slice_index_or, refl}
use Rattle.std.proofs.Common.{arith}
use Rattle.std.proofs.lemmas.List.Elements.{All-cons, All-nil}
use Rattle.dk_base.specs.Values.Spelling.{IsWritten}
use Rattle.dk_base.specs.Values.Tuples.{ints_of, text_of, texts_of, value_at}
use Rattle.dk_base.specs.declared.kinds.Kind.TheVariants as kind
use Rattle.dk_base.specs.declared.values.Value.{Value}
use Rattle.dk_base.specs.declared.values.Value.TheVariants as value
use Rattle.dk_forms.specs.Offset.{differences}
use Rattle.dk_meanings.proofs.Bounds.{IsSmall, IsString, numbers_of, small_differences, string_of, strings_of}
use Rattle.dk_meanings.proofs.MeaningLaws.{IsBounded}
use Rattle.dk_meanings.specs.Meaning.{Meaning, form_by}
use Rattle.dk_meanings.specs.Meanings.{elements, itself, meanings, of_one, of_two}
use Rattle.dk_template.specs.Rows.{IsTuple}
use Rattle.dk_template.specs.Templates.{kind_of, roles_of, rows}
use Rattle.dk_template.specs.declared.templates.Template.{Template}
use Rattle.std.specs.Prelude.{map}

-- a value of a tuple is one that some text writes
written_at : (t : List Value) (role : ℕ) → All IsWritten t → role < length t → IsWritten (value_at t role)
written_at t role all within = all role value.Missing within

one_string : (t : List Value) → IsTuple (kind.Str ∷ []) t → All IsString (of_one text_of itself t)
one_string t is =
    let arity : length t ≡ 1 = is.arity in
    All-cons IsString (text_of (value_at t 0)) [] (string_of (value_at t 0) (is.each 0) (written_at t 0 is.written (omega (arith, arity)))) (All-nil IsString)

some_strings : (t : List Value) → IsTuple (kind.StrSeq ∷ []) t → All IsString (of_one texts_of elements t)
some_strings t is =
    let arity : length t ≡ 1 = is.arity in
    strings_of (value_at t 0) (written_at t 0 is.written (omega (arith, arity)))

some_differences : (t : List Value) → IsTuple (kind.IntSeq ∷ kind.IntSeq ∷ []) t → All IsSmall (of_two ints_of ints_of differences t)
some_differences t is =
    let arity : length t ≡ 2 = is.arity in
    small_differences (ints_of (value_at t 0)) (ints_of (value_at t 1))
    (numbers_of (value_at t 0) (written_at t 0 is.written (omega (arith, arity))))
    (numbers_of (value_at t 1) (written_at t 1 is.written (omega (arith, arity))))

-- what a row says has the form of the row's states, and its values are within bounds
abbrev pub Agrees : Template → Meaning → Type 0
Agrees t m = (form_by m ≡ t.form) × IsBounded (map kind_of (roles_of t.takes)) m

abbrev AgreeAll : List Template → List Meaning → Type 0
AgreeAll [] [] = Unit {0}
AgreeAll (t ∷ ts) (m ∷ ms) = Agrees t m × AgreeAll ts ms
AgreeAll _ _ = ⊥

-- row by row
tables_agree : AgreeAll rows meanings
unfolding rows meanings
tables_agree = (
  (refl, tt),
  (
    (refl, tt),
    (
      (refl, tt),
      (
        (refl, tt),
        (
          (refl, tt),
          (
            (refl, tt),
            (
              (refl, tt),
              (
                (refl, tt),
                (
                  (refl, one_string),
                  (
                    (refl, tt),
                    (
                      (refl, tt),
                      (
                        (refl, tt),
                        (
                          (refl, tt),
                          (
                            (refl, tt),
                            (
                              (refl, tt),
                              (
                                (refl, tt),
                                (
                                  (refl, tt),
                                  (
                                    (refl, tt),
                                    (
                                      (refl, tt),
                                      (
                                        (refl, tt),
                                        (
                                          (refl, tt),
                                          (
                                            (refl, tt),
                                            (
                                              (refl, tt),
                                              (
                                                (refl, tt),
                                                (
                                                  (refl, tt),
                                                  (
                                                    (refl, tt),
                                                    (
                                                      (refl, tt),
                                                      (
                                                        (refl, tt),
                                                        (
                                                          (refl, tt),
                                                          (
                                                            (refl, tt),
                                                            (
                                                              (refl, tt),
                                                              (
                                                                (refl, tt),
                                                                (
                                                                  (refl, tt),
                                                                  (
                                                                    (refl, tt),
                                                                    (
                                                                      (refl, tt),
                                                                      (
                                                                        (refl, tt),
                                                                        (
                                                                          (refl, tt),
                                                                          (
                                                                            (refl, tt),
                                                                            (
                                                                              (refl, tt),
                                                                              (
                                                                                (refl, tt),
                                                                                (
                                                                                  (refl, tt),
                                                                                  (
                                                                                    (refl, tt),
                                                                                    (
                                                                                      (refl, tt),
                                                                                      (
                                                                                        (refl, tt),
                                                                                        (
                                                                                          (refl, tt),
                                                                                          (
                                                                                            (refl, tt),
                                                                                            (
                                                                                              (refl, some_strings),
                                                                                              (
                                                                                                (refl, tt),
                                                                                                (
                                                                                                  (refl, tt),
                                                                                                  (
                                                                                                    (refl, tt),
                                                                                                    (
                                                                                                      (refl, tt),
                                                                                                      (
                                                                                                        (refl, tt),
                                                                                                        (
                                                                                                          (refl, tt),
                                                                                                          (
                                                                                                            (refl, tt),
                                                                                                            (
                                                                                                              (refl, tt),
                                                                                                              (
                                                                                                                (refl, tt),
                                                                                                                (
                                                                                                                  (refl, tt),
                                                                                                                  (
                                                                                                                    (refl, tt),
                                                                                                                    (
                                                                                                                      (refl, tt),
                                                                                                                      (
                                                                                                                        (refl, tt),
                                                                                                                        (
                                                                                                                          (refl, tt),
                                                                                                                          (
                                                                                                                            (refl, tt),
                                                                                                                            (
                                                                                                                              (refl, tt),
                                                                                                                              (
                                                                                                                                (refl, tt),
                                                                                                                                (
                                                                                                                                  (refl, tt),
                                                                                                                                  (
                                                                                                                                    (refl, tt),
                                                                                                                                    (
                                                                                                                                      (refl, tt),
                                                                                                                                      (
                                                                                                                                        (refl, some_differences),
                                                                                                                                        tt,
                                                                                                                                      ),
                                                                                                                                    ),
                                                                                                                                  ),
                                                                                                                                ),
                                                                                                                              ),
                                                                                                                            ),
                                                                                                                          ),
                                                                                                                        ),
                                                                                                                      ),
                                                                                                                    ),
                                                                                                                  ),
                                                                                                                ),
                                                                                                              ),
                                                                                                            ),
                                                                                                          ),
                                                                                                        ),
                                                                                                      ),
                                                                                                    ),
                                                                                                  ),
                                                                                                ),
                                                                                              ),
                                                                                            ),
                                                                                          ),
                                                                                        ),
                                                                                      ),
                                                                                    ),
                                                                                  ),
                                                                                ),
                                                                              ),
                                                                            ),
                                                                          ),
                                                                        ),
                                                                      ),
                                                                    ),
                                                                  ),
                                                                ),
                                                              ),
                                                            ),
                                                          ),
                                                        ),
                                                      ),
                                                    ),
                                                  ),
                                                ),
                                              ),
                                            ),
                                          ),
                                        ),
                                      ),
                                    ),
                                  ),
                                ),
                              ),
                            ),
                          ),
                        ),
                      ),
                    ),
                  ),
                ),
              ),
            ),
          ),
        ),
      ),
    ),
  ),
)

agree_at : (ts : List Template) (ms : List Meaning) → AgreeAll ts ms → (i : ℕ) → i < length ts → (d : Template) (e : Meaning) → Agrees (slice_index_or ts i d) (slice_index_or ms i e)
agree_at [] ms all i within d e = absurd (omega (arith, within))
agree_at (t ∷ ts) [] all i within d e = absurd all
agree_at (t ∷ ts) (m ∷ ms) all zero within d e = all.0
agree_at (t ∷ ts) (m ∷ ms) all (suc i) within d e = agree_at ts ms all.1 i (omega (arith, within)) d e

-- there are 68 rows
length-rows : length rows ≡ 68
unfolding rows
length-rows = refl

pub agrees : (i : ℕ) → i < 68 → (d : Template) (e : Meaning) → Agrees (slice_index_or rows i d) (slice_index_or meanings i e)
agrees i within d e =
    let long = length-rows in
    agree_at rows meanings tables_agree i (omega (arith, within, long)) d e
