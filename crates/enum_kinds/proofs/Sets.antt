-- Meets and unions of kinds, one more at a time.
use Rattle.std.proofs.Common.{◌≡◌, Bool, true, false, ◌&&◌, ◌||◌, refl, sym, ap, ◌∙◌, Option, Some, None, List, ◌∷◌, map, ℕ}
use Rattle.schema_defs.specs.Schema.{Schema, boolean, object, Schemas, schema, Document}
use Rattle.schema_defs.specs.Admits.{target}
use Rattle.schema_defs.specs.Children.{reference_of}
use Rattle.schema_defs.specs.Walks.{IsGuarded}
use Rattle.enum_defs.specs.declared.KindSet.{KindSet}
use Rattle.enum_defs.specs.Kinds.{meet, join, union, kinds_meet, kinds_union, every_kind, no_kind, own_kinds, or_every, kinds_at, kinds_of_same, followed, kinds, kinds_beyond}
use Rattle.enum_defs.proofs.Spare.{kinds_unfold}
use Rattle.enum_kinds.specs.Here.{kinds_here}

and-assoc : (a b c : Bool) → ((a && b) && c) ≡ (a && (b && c))
and-assoc true b c = refl
and-assoc false b c = refl

and-swap : (a b : Bool) → (a && b) ≡ (b && a)
and-swap true true = refl
and-swap true false = refl
and-swap false true = refl
and-swap false false = refl

or-assoc : (a b c : Bool) → ((a || b) || c) ≡ (a || (b || c))
or-assoc true b c = refl
or-assoc false b c = refl

and-false : (a : Bool) → (a && false) ≡ false
and-false true = refl
and-false false = refl

pub meet-assoc : (a b c : KindSet) → meet (meet a b) c ≡ meet a (meet b c)
meet-assoc a b c = λ i. record { null = and-assoc a.null b.null c.null i; boolean = and-assoc a.boolean b.boolean c.boolean i; number = and-assoc a.number b.number c.number i; string = and-assoc a.string b.string c.string i; array = and-assoc a.array b.array c.array i; object = and-assoc a.object b.object c.object i }

pub meet-swap : (a b : KindSet) → meet a b ≡ meet b a
meet-swap a b = λ i. record { null = and-swap a.null b.null i; boolean = and-swap a.boolean b.boolean i; number = and-swap a.number b.number i; string = and-swap a.string b.string i; array = and-swap a.array b.array i; object = and-swap a.object b.object i }

pub meet-none : (a : KindSet) → meet a no_kind ≡ no_kind
meet-none a = λ i. record { null = and-false a.null i; boolean = and-false a.boolean i; number = and-false a.number i; string = and-false a.string i; array = and-false a.array i; object = and-false a.object i }

pub meet-every : (a : KindSet) → meet a every_kind ≡ a
meet-every a = meet-swap a every_kind

pub join-assoc : (a b c : KindSet) → join (join a b) c ≡ join a (join b c)
join-assoc a b c = λ i. record { null = or-assoc a.null b.null c.null i; boolean = or-assoc a.boolean b.boolean c.boolean i; number = or-assoc a.number b.number c.number i; string = or-assoc a.string b.string c.string i; array = or-assoc a.array b.array c.array i; object = or-assoc a.object b.object c.object i }

or-false : (a : Bool) → (a || false) ≡ a
or-false true = refl
or-false false = refl

pub join-none : (a : KindSet) → join a no_kind ≡ a
join-none a = λ i. record { null = or-false a.null i; boolean = or-false a.boolean i; number = or-false a.number i; string = or-false a.string i; array = or-false a.array i; object = or-false a.object i }

-- ---- a schema, and what its reference leads to

module _ (d : Document) (g : IsGuarded d) where
  pub here-and-beyond : (s : Schema) → kinds d s ≡ meet (kinds_here (kinds_beyond d) s) (or_every (kinds_beyond d) (reference_of s))
  here-and-beyond (boolean b) = kinds_unfold d g (boolean b) ∙ sym (meet-every (kinds_here (kinds_beyond d) (boolean b)))
  here-and-beyond (object p ss ls ns) =
      kinds_unfold d g (object p ss ls ns)
      ∙ ap (meet (own_kinds (object p ss ls ns))) (meet-swap (or_every (kinds_beyond d) p.reference) (kinds_of_same (kinds_beyond d) ss))
      ∙ sym (meet-assoc (own_kinds (object p ss ls ns)) (kinds_of_same (kinds_beyond d) ss) (or_every (kinds_beyond d) p.reference))

  -- with what is left open so far
  pub no-reference : (open' so_far here : KindSet) (s : Schema) → here ≡ kinds_here (kinds_beyond d) s → so_far ≡ meet open' here → reference_of s ≡ None → so_far ≡ meet open' (kinds d s)
  no-reference open' so_far here s h e n =
      e ∙ ap (meet open') (h ∙ sym (meet-every (kinds_here (kinds_beyond d) s)) ∙ ap (λ o. meet (kinds_here (kinds_beyond d) s) (or_every (kinds_beyond d) o)) (sym n) ∙ sym (here-and-beyond s))

  to-target : (o : KindSet) (s : Schema) (q : List ℕ) (t : Option Schema) → reference_of s ≡ Some q → target d q ≡ t → kinds d s ≡ meet (kinds_here (kinds_beyond d) s) (followed (kinds d) t)
  to-target o s q t e f = here-and-beyond s ∙ ap (λ x. meet (kinds_here (kinds_beyond d) s) (or_every (kinds_beyond d) x)) e ∙ ap (λ x. meet (kinds_here (kinds_beyond d) s) (followed (kinds d) x)) f

  pub no-target : (open' : KindSet) (s : Schema) (q : List ℕ) → reference_of s ≡ Some q → target d q ≡ None → no_kind ≡ meet open' (kinds d s)
  no-target open' s q e f = sym (ap (meet open') (to-target open' s q None e f ∙ meet-none (kinds_here (kinds_beyond d) s)) ∙ meet-none open')

  pub a-target : (open' so_far here : KindSet) (s t : Schema) (q : List ℕ) → here ≡ kinds_here (kinds_beyond d) s → so_far ≡ meet open' here → reference_of s ≡ Some q → target d q ≡ Some t → meet so_far (kinds d t) ≡ meet open' (kinds d s)
  a-target open' so_far here s t q h e r f =
      ap (λ x. meet x (kinds d t)) (e ∙ ap (meet open') h) ∙ meet-assoc open' (kinds_here (kinds_beyond d) s) (kinds d t) ∙ sym (ap (meet open') (to-target open' s q (Some t) r f))

  -- of a schema alone
  pub without_reference : (here : KindSet) (s : Schema) → here ≡ kinds_here (kinds_beyond d) s → reference_of s ≡ None → here ≡ kinds d s
  without_reference here s h n =
      h ∙ sym (meet-every (kinds_here (kinds_beyond d) s)) ∙ ap (λ o. meet (kinds_here (kinds_beyond d) s) (or_every (kinds_beyond d) o)) (sym n) ∙ sym (here-and-beyond s)

  pub with_reference : (here behind whole : KindSet) (s : Schema) (q : List ℕ) → here ≡ kinds_here (kinds_beyond d) s → behind ≡ kinds_beyond d q → reference_of s ≡ Some q → whole ≡ meet here behind → whole ≡ kinds d s
  with_reference here behind whole s q h b r w =
      w ∙ (λ i. meet (h i) (b i)) ∙ ap (λ o. meet (kinds_here (kinds_beyond d) s) (or_every (kinds_beyond d) o)) (sym r) ∙ sym (here-and-beyond s)

  -- where what the reference leaves open was kept
  pub with_rest : (open' so_far here rest whole : KindSet) (s : Schema) (q : List ℕ) → here ≡ kinds_here (kinds_beyond d) s → so_far ≡ meet open' here → reference_of s ≡ Some q → kinds_beyond d q ≡ rest → whole ≡ meet so_far rest → whole ≡ meet open' (kinds d s)
  with_rest open' so_far here rest whole s q h e r b w =
      w ∙ ap (λ x. meet x rest) e ∙ meet-assoc open' here rest ∙ ap (meet open') (with_reference here rest (meet here rest) s q h (sym b) r refl)

-- ---- one more of a list

pub one_more : {A : Type 0} (f : A → KindSet) (so_far next one : KindSet) (x : A) (rest left : List A) (whole : KindSet) → next ≡ join so_far one → one ≡ f x → left ≡ x ∷ rest → whole ≡ join so_far (union f left) → whole ≡ join next (union f rest)
one_more f so_far next one x rest left whole n o l w =
    w ∙ ap (λ xs. join so_far (union f xs)) l ∙ sym (join-assoc so_far (f x) (union f rest)) ∙ ap (λ k. join k (union f rest)) (ap (join so_far) (sym o) ∙ sym n)

pub one_more_seen : {A B : Type 0} (v : A → B) (f : B → KindSet) (so_far next one : KindSet) (x : A) (rest left : List A) (whole : KindSet) → next ≡ join so_far one → one ≡ f (v x) → left ≡ x ∷ rest → whole ≡ join so_far (union f (map v left)) → whole ≡ join next (union f (map v rest))
one_more_seen v f so_far next one x rest left whole n o l w = one_more f so_far next one (v x) (map v rest) (map v left) whole n o (ap (map v) l) w

-- and of a list of schemas
pub one_more_of_all : (refer : List ℕ → KindSet) (so_far next one : KindSet) (x : Schema) (rest left : Schemas) (whole : KindSet) → next ≡ meet so_far one → one ≡ kinds_at refer x → left ≡ schema x rest → meet so_far (kinds_meet refer left) ≡ whole → meet next (kinds_meet refer rest) ≡ whole
one_more_of_all refer so_far next one x rest left whole n o l w =
    ap (λ k. meet k (kinds_meet refer rest)) (n ∙ ap (meet so_far) o) ∙ meet-assoc so_far (kinds_at refer x) (kinds_meet refer rest) ∙ ap (λ ss. meet so_far (kinds_meet refer ss)) (sym l) ∙ w

pub one_more_of_some : (refer : List ℕ → KindSet) (so_far next one : KindSet) (x : Schema) (rest left : Schemas) (whole : KindSet) → next ≡ join so_far one → one ≡ kinds_at refer x → left ≡ schema x rest → join so_far (kinds_union refer left) ≡ whole → join next (kinds_union refer rest) ≡ whole
one_more_of_some refer so_far next one x rest left whole n o l w =
    ap (λ k. join k (kinds_union refer rest)) (n ∙ ap (join so_far) o) ∙ join-assoc so_far (kinds_at refer x) (kinds_union refer rest) ∙ ap (λ ss. join so_far (kinds_union refer ss)) (sym l) ∙ w
