-- Characters that names and numbers are made of are no signs of layout.
use Rattle.std.proofs.Common.{◌≡◌, ℕ, Bool, true, false, true≢false, eqb, ◌||◌, inl, inr, refl, ap, sym, ◌∙◌}
use Rattle.std.specs.Prelude.{if◌then◌else◌}
use Rattle.std.specs.Char.{is_ascii_digit}
use Rattle.std.proofs.lemmas.Bool.Decides.{eqb_tells}
use Rattle.std.proofs.lemmas.Bool.{eqb-true}
use Rattle.unicode_ident.specs.Ident.{is_xid_continue}
use Rattle.unicode_ident.proofs.Computing.{unicode_ident}
use Rattle.rust_tokens.specs.Front.{begins_name}
use Rattle.rust_tokens.proofs.Whites.{or_case}
use Rattle.tidy_texts.specs.declared.spot.Before.TheVariants.{Open, Name, Other, Literal}
use Rattle.tidy_texts.specs.Tidy.{before_of, is_inside, is_opening, is_sign, is_end, is_call}

-- what the layout looks at fails the test
pub record IsApart (P : ℕ → Bool) : Type 0 where
  pub at32 : P 32 ≡ false
  pub at34 : P 34 ≡ false
  pub at40 : P 40 ≡ false
  pub at91 : P 91 ≡ false
  pub at60 : P 60 ≡ false
  pub at58 : P 58 ≡ false
  pub at35 : P 35 ≡ false
  pub at38 : P 38 ≡ false
  pub at41 : P 41 ≡ false
  pub at93 : P 93 ≡ false
  pub at62 : P 62 ≡ false
  pub at44 : P 44 ≡ false
  pub at59 : P 59 ≡ false
  pub at61 : P 61 ≡ false

pub words_apart : IsApart is_xid_continue
unfolding unicode_ident
words_apart = record {
  at32 = refl;
  at34 = refl;
  at40 = refl;
  at91 = refl;
  at60 = refl;
  at58 = refl;
  at35 = refl;
  at38 = refl;
  at41 = refl;
  at93 = refl;
  at62 = refl;
  at44 = refl;
  at59 = refl;
  at61 = refl;
}

pub starts_apart : IsApart begins_name
unfolding unicode_ident
starts_apart = record {
  at32 = refl;
  at34 = refl;
  at40 = refl;
  at91 = refl;
  at60 = refl;
  at58 = refl;
  at35 = refl;
  at38 = refl;
  at41 = refl;
  at93 = refl;
  at62 = refl;
  at44 = refl;
  at59 = refl;
  at61 = refl;
}

pub digits_apart : IsApart is_ascii_digit
digits_apart = record {
  at32 = refl;
  at34 = refl;
  at40 = refl;
  at91 = refl;
  at60 = refl;
  at58 = refl;
  at35 = refl;
  at38 = refl;
  at41 = refl;
  at93 = refl;
  at62 = refl;
  at44 = refl;
  at59 = refl;
  at61 = refl;
}

pub differs : (P : ℕ → Bool) (d k : ℕ) → P k ≡ false → P d ≡ true → eqb d k ≡ false
differs P d k f h = elim (eqb_tells d k) [ inl same ↦ absurd (true≢false (sym h ∙ ap P same.1 ∙ f)) | inr other ↦ other.0 ]

-- such a character is no blank, and stands as one of a name
pub no_blank : (P : ℕ → Bool) → IsApart P → (d : ℕ) → P d ≡ true → eqb d 32 ≡ false
no_blank P a d h = differs P d 32 a.at32 h

pub stands_as_name : (P : ℕ → Bool) → IsApart P → (d : ℕ) → P d ≡ true → before_of d ≡ Name
stands_as_name P a d h =
    let e34 = differs P d 34 a.at34 h in
    let e40 = differs P d 40 a.at40 h in
    let e91 = differs P d 91 a.at91 h in
    let e60 = differs P d 60 a.at60 h in
    let e58 = differs P d 58 a.at58 h in
    let e35 = differs P d 35 a.at35 h in
    let e38 = differs P d 38 a.at38 h in
    let e41 = differs P d 41 a.at41 h in
    let e93 = differs P d 93 a.at93 h in
    let e62 = differs P d 62 a.at62 h in
    let e44 = differs P d 44 a.at44 h in
    let e59 = differs P d 59 a.at59 h in
    let e61 = differs P d 61 a.at61 h in
    λ i. if e34 i then Literal else (if (e40 i || e91 i || e60 i || e58 i || e35 i || e38 i) then Open else (if (e41 i || e93 i || e62 i || e44 i || e59 i || e61 i) then Other else Name))

-- but for the quote none begins a literal
outside_case : (p q : Bool) → is_inside (if p then Open else (if q then Other else Name)) ≡ false
outside_case true q = refl
outside_case false true = refl
outside_case false false = refl

pub stands_outside : (d : ℕ) → eqb d 34 ≡ false → is_inside (before_of d) ≡ false
stands_outside d h = (λ i. is_inside (if h i then Literal else (if is_opening d then Open else (if is_sign d then Other else Name)))) ∙ outside_case (is_opening d) (is_sign d)

-- what follows a name at once goes on with none
pub record IsStop (d : ℕ) : Type 0 where
  pub word : is_xid_continue d ≡ false
  pub hash : eqb d 35 ≡ false

stop_at : (d k : ℕ) → IsStop k → eqb d k ≡ true → IsStop d
stop_at d k s h = record { word = ap is_xid_continue (eqb-true d k h) ∙ s.word; hash = ap (λ x. eqb x 35) (eqb-true d k h) ∙ s.hash }

abbrev stop : (k : ℕ) → is_xid_continue k ≡ false → eqb k 35 ≡ false → IsStop k
stop k h e = record { word = h; hash = e }

pub blank_stops : IsStop 32
blank_stops = stop 32 words_apart.at32 refl

pub end_stops : (d : ℕ) → is_end d ≡ true → IsStop d
end_stops d = (or_case _ (eqb d 60) (IsStop d) (or_case _ (eqb d 62) (IsStop d) (or_case _ (eqb d 59) (IsStop d) (or_case _ (eqb d 44) (IsStop d) (or_case (eqb d 41) (eqb d 93) (IsStop d) (stop_at d 41 (stop 41 words_apart.at41 refl)) (stop_at d 93 (stop 93 words_apart.at93 refl))) (stop_at d 44 (stop 44 words_apart.at44 refl))) (stop_at d 59 (stop 59 words_apart.at59 refl))) (stop_at d 62 (stop 62 words_apart.at62 refl))) (stop_at d 60 (stop 60 words_apart.at60 refl)))

pub call_stops : (d : ℕ) → is_call d ≡ true → IsStop d
call_stops d = or_case _ (eqb d 58) (IsStop d) (or_case (eqb d 40) (eqb d 91) (IsStop d) (stop_at d 40 (stop 40 words_apart.at40 refl)) (stop_at d 91 (stop 91 words_apart.at91 refl))) (stop_at d 58 (stop 58 words_apart.at58 refl))
