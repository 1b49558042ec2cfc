-- How many there are, as far as it is told.
use Rattle.std.specs.Prelude.{List, [], ◌∷◌}
use Rattle.item_forms.specs.declared.beside.Count.{Count}
use Rattle.item_forms.specs.declared.beside.Count.TheVariants.{None, One, Several}

abbrev pub count_of : {A : Type 0} → List A → Count
count_of [] = None
count_of (a ∷ []) = One
count_of (a ∷ b ∷ xs) = Several

abbrev pub one_more : Count → Count
one_more None = One
one_more One = Several
one_more Several = Several
