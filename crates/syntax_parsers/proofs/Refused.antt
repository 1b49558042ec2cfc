-- What an error says of the steps that led to it.
use Rattle.std.proofs.Common.{◌≡◌, List, ap, sym, ◌∙◌, subst}
use Rattle.std.specs.Prelude.{Result, Ok, Err, IsErrAnd}
use Rattle.syntax_trees.specs.declared.cursor.SyntaxError.{SyntaxError}
use Rattle.syntax_parsers.specs.declared.fault.ParseFault.{ParseFault}
use Rattle.syntax_parsers.specs.declared.fault.ParseFault.TheVariants.{Memory, Syntax}
use Rattle.syntax_parsers.specs.Answer.{Refuses, Answers, ◌>>=◌, with_first, with_front}

-- the same fault refuses what is the same
pub refused_is : {Y : Type 0} → (f : ParseFault) (x y : Result Y SyntaxError) → x ≡ y → Refuses f y → Refuses f x
refused_is Memory x y e h = tt
refused_is (Syntax s) x y e h = e ∙ h

pub answers_is : {X Y : Type 0} → (view : X → Y) (a : Result X ParseFault) (x y : Result Y SyntaxError) → x ≡ y → Answers view a y → Answers view a x
answers_is view (Ok v) x y e h = e ∙ h
answers_is view (Err f) x y e h = refused_is f x y e h

-- a first step that is refused
pub bind_refused : {A B : Type 0} → (f : ParseFault) (m : Result A SyntaxError) (k : A → Result B SyntaxError) → Refuses f m → Refuses f (m >>= k)
bind_refused Memory m k h = tt
bind_refused {A} {B} (Syntax s) m k h = ap (λ (x : Result A SyntaxError). x >>= k) h

pub first_refused : {A B : Type 0} → (f : ParseFault) (xs : List A) (m : Result (List A × B) SyntaxError) → Refuses f m → Refuses f (with_first xs m)
first_refused Memory xs m h = tt
first_refused {A} {B} (Syntax s) xs m h = ap (λ (x : Result (List A × B) SyntaxError). with_first xs x) h

pub front_refused : {A : Type 0} → (f : ParseFault) (xs : List A) (m : Result (List A) SyntaxError) → Refuses f m → Refuses f (with_front xs m)
front_refused Memory xs m h = tt
front_refused {A} (Syntax s) xs m h = ap (λ (x : Result (List A) SyntaxError). with_front xs x) h

-- the exit of a `?`
pub answers_err : {X Y : Type 0} → (view : X → Y) (r : Result X ParseFault) (f : ParseFault) (y : Result Y SyntaxError) → IsErrAnd r (λ e. e ≡ f) → Refuses f y → Answers view r y
answers_err view (Ok x) f y e h = absurd e
answers_err view (Err g) f y e h = subst (λ (k : ParseFault). Refuses k y) (sym e) h
