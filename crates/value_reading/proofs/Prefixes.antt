-- What is read of a list, once some of it was.
use Rattle.std.proofs.Common.{◌≡◌, List, [], ◌∷◌, ◌++◌, map, refl, sym, ap, ◌∙◌, append_assoc}
use Rattle.std.proofs.lemmas.List.{append-nil, map-append}
use Rattle.schema_defs.specs.Location.{Location}
use Rattle.reading_defs.specs.Reading.{Read, taken, stopped, unsound, read_map, followed}

-- those that were read, before what the rest gives
abbrev pub prefixed : {A : Type 0} → List A → Read (List A) → Read (List A)
prefixed xs r = read_map (λ ys. xs ++ ys) r

pub begun : {A : Type 0} → (r : Read (List A)) → r ≡ prefixed [] r
begun (taken xs) = refl
begun (stopped l) = refl
begun unsound = refl

one_longer : {A : Type 0} → (xs : List A) (x : A) (r : Read (List A)) → prefixed xs (followed (taken x) r) ≡ prefixed (xs ++ x ∷ []) r
one_longer xs x (taken ys) = ap taken (sym (append_assoc xs (x ∷ []) ys))
one_longer xs x (stopped l) = refl
one_longer xs x unsound = refl

module _ {A : Type 0} where
  pub turn : (whole rest rest' : Read (List A)) (head : Read A) (done new : List A) (x : A)
      → whole ≡ prefixed done rest → rest ≡ followed head rest' → taken x ≡ head → new ≡ done ++ x ∷ [] → whole ≡ prefixed new rest'
  turn whole rest rest' head done new x was step h n =
      was ∙ ap (prefixed done) step ∙ ap (λ r. prefixed done (followed r rest')) (sym h) ∙ one_longer done x rest' ∙ ap (λ xs. prefixed xs rest') (sym n)

  pub stop : (whole rest rest' : Read (List A)) (head : Read A) (done : List A) (l : Location)
      → whole ≡ prefixed done rest → rest ≡ followed head rest' → stopped l ≡ head → stopped l ≡ whole
  stop whole rest rest' head done l was step h = sym (was ∙ ap (prefixed done) step ∙ ap (λ r. prefixed done (followed r rest')) (sym h))

  pub halt : (whole rest rest' : Read (List A)) (head : Read A) (done : List A)
      → whole ≡ prefixed done rest → rest ≡ followed head rest' → unsound ≡ head → unsound ≡ whole
  halt whole rest rest' head done was step h = sym (was ∙ ap (prefixed done) step ∙ ap (λ r. prefixed done (followed r rest')) (sym h))

  pub finish : (whole rest : Read (List A)) (done : List A) → whole ≡ prefixed done rest → rest ≡ taken [] → taken done ≡ whole
  finish whole rest done was e = sym (was ∙ ap (prefixed done) e ∙ ap taken (append-nil done))
