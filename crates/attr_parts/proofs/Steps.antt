-- The reader's steps: what is told by one, and by those after it.
use Rattle.std.proofs.Common.{◌≡◌, List, [], ◌++◌, refl, ap, sym, ◌∙◌, append_assoc, append-nil}
use Rattle.std.proofs.lemmas.List.{append_cancel_left}
use Rattle.attr_parts.specs.Diagnostics.{DiagnosticD, TellsFront}

pub tells_none : (old new told : List DiagnosticD) → new ≡ old → TellsFront old new told
tells_none old new told e = record { front = []; rest = told; is_new = e ∙ sym (append-nil old); is_told = refl }

pub tells_later : (old mid new a b : List DiagnosticD) → mid ≡ old ++ a → TellsFront mid new b → TellsFront old new (a ++ b)
tells_later old mid new a b e t = record {
  front = a ++ t.front;
  rest = t.rest;
  is_new = t.is_new ∙ ap (λ l. l ++ t.front) e ∙ append_assoc old a t.front;
  is_told = ap (λ l. a ++ l) t.is_told ∙ sym (append_assoc a t.front t.rest);
}

pub tells_more : (old new a b : List DiagnosticD) → TellsFront old new a → TellsFront old new (a ++ b)
tells_more old new a b t = record {
  front = t.front;
  rest = t.rest ++ b;
  is_new = t.is_new;
  is_told = ap (λ l. l ++ b) t.is_told ∙ append_assoc t.front t.rest b;
}

pub tells_all : (old new told : List DiagnosticD) → new ≡ old ++ told → TellsFront old new told
tells_all old new told e = record { front = told; rest = []; is_new = e; is_told = sym (append-nil told) }

-- a front is told, and then a front of what is left
pub tells_on : (old mid new told rest : List DiagnosticD) → TellsFront old mid told → old ++ told ≡ mid ++ rest → TellsFront mid new rest → TellsFront old new told
tells_on old mid new told rest s e t =
    let whole : old ++ (s.front ++ s.rest) ≡ old ++ (s.front ++ rest) = ap (λ l. old ++ l) (sym s.is_told) ∙ e ∙ ap (λ l. l ++ rest) s.is_new ∙ append_assoc old s.front rest in
    let same : s.rest ≡ rest = append_cancel_left s.front s.rest rest (append_cancel_left old _ _ whole) in
    record {
      front = s.front ++ t.front;
      rest = t.rest;
      is_new = t.is_new ∙ ap (λ l. l ++ t.front) s.is_new ∙ append_assoc old s.front t.front;
      is_told = s.is_told ∙ ap (λ l. s.front ++ l) (same ∙ t.is_told) ∙ sym (append_assoc s.front t.front t.rest);
    }
