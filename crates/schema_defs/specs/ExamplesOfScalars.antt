-- Worked examples: keywords of numbers and of texts.
use Rattle.std.specs.Prelude.{[], ◌∷◌}
use Rattle.json_value.specs.Value.{Value, text, fraction}
use Rattle.schema_defs.specs.Build.{◌≔◌, str, num, minus, obj, typed, Takes, Refuses}

pub record NumberExamples : Type 0 where
  pub at_maximum : Takes (obj ("maximum" ≔ num 3 ∷ [])) (num 3)
  pub above_maximum : Refuses (obj ("maximum" ≔ num 3 ∷ [])) (num 4)
  pub below_exclusive_maximum : Takes (obj ("exclusiveMaximum" ≔ num 3 ∷ [])) (num 2)
  pub at_exclusive_maximum : Refuses (obj ("exclusiveMaximum" ≔ num 3 ∷ [])) (num 3)
  pub at_minimum : Takes (obj ("minimum" ≔ minus 3 ∷ [])) (minus 3)
  pub below_minimum : Refuses (obj ("minimum" ≔ minus 3 ∷ [])) (minus 4)
  pub above_exclusive_minimum : Takes (obj ("exclusiveMinimum" ≔ num 3 ∷ [])) (num 4)
  pub at_exclusive_minimum : Refuses (obj ("exclusiveMinimum" ≔ num 3 ∷ [])) (num 3)
  pub multiple : Takes (obj ("multipleOf" ≔ num 3 ∷ [])) (minus 9)
  pub no_multiple : Refuses (obj ("multipleOf" ≔ num 3 ∷ [])) (minus 8)
  pub texts_have_no_bounds : Takes (obj ("maximum" ≔ num 3 ∷ "multipleOf" ≔ num 2 ∷ [])) (str "9")
  pub fractions_are_numbers : Takes (typed "number") fraction
  pub fractions_are_no_integers : Refuses (typed "integer") fraction
  pub least_int8 : Takes (obj ("format" ≔ str "int8" ∷ [])) (minus 128)
  pub below_int8 : Refuses (obj ("format" ≔ str "int8" ∷ [])) (minus 129)
  pub above_uint8 : Refuses (obj ("format" ≔ str "uint8" ∷ [])) (num 256)
  pub below_uint16 : Refuses (obj ("format" ≔ str "uint16" ∷ [])) (minus 1)
  pub greatest_int16 : Takes (obj ("format" ≔ str "int16" ∷ [])) (num 32767)
  pub int_is_int32 : Refuses (obj ("format" ≔ str "int" ∷ [])) (num 2147483648)
  pub above_int32 : Refuses (obj ("format" ≔ str "int32" ∷ [])) (num 2147483648)
  pub greatest_uint32 : Takes (obj ("format" ≔ str "uint32" ∷ [])) (num 4294967295)
  pub uint_is_uint32 : Refuses (obj ("format" ≔ str "uint" ∷ [])) (num 4294967296)
  pub least_int64 : Takes (obj ("format" ≔ str "int64" ∷ [])) (minus 9223372036854775808)
  pub greatest_uint64 : Takes (obj ("format" ≔ str "uint64" ∷ [])) (num 18446744073709551615)
  pub above_int64 : Refuses (obj ("format" ≔ str "int64" ∷ [])) (num 9223372036854775808)
  pub other_formats_say_nothing : Takes (obj ("format" ≔ str "double" ∷ [])) (num 1)
  pub text_formats_say_nothing : Takes (obj ("format" ≔ str "date" ∷ [])) (num 1)

-- two characters in four bytes
abbrev pub two_letters : Value
two_letters = text (195 ∷ 169 ∷ 195 ∷ 168 ∷ [])

pub record TextExamples : Type 0 where
  pub short : Takes (obj ("maxLength" ≔ num 2 ∷ [])) (str "ab")
  pub too_long : Refuses (obj ("maxLength" ≔ num 2 ∷ [])) (str "abc")
  pub long_enough : Takes (obj ("minLength" ≔ num 2 ∷ [])) (str "ab")
  pub too_short : Refuses (obj ("minLength" ≔ num 2 ∷ [])) (str "a")
  pub characters_and_not_bytes : Takes (obj ("maxLength" ≔ num 2 ∷ "minLength" ≔ num 2 ∷ [])) two_letters
  pub bytes_do_not_count : Refuses (obj ("minLength" ≔ num 3 ∷ [])) two_letters
  pub has_pattern : Takes (obj ("pattern" ≔ str "ab" ∷ [])) (str "abc")
  pub lacks_pattern : Refuses (obj ("pattern" ≔ str "ab" ∷ [])) (str "ba")
  pub numbers_have_no_length : Takes (obj ("maxLength" ≔ num 0 ∷ "pattern" ≔ str "x" ∷ [])) (num 12)
  pub date : Takes (obj ("format" ≔ str "date" ∷ [])) (str "2024-02-29")
  pub no_date : Refuses (obj ("format" ≔ str "date" ∷ [])) (str "2023-02-29")
  pub integer_formats_say_nothing : Takes (obj ("format" ≔ str "uint8" ∷ [])) (str "256")
  pub other_formats_say_nothing : Takes (obj ("format" ≔ str "email" ∷ [])) (str "x")
