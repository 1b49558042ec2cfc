-- Tokens with other spans spell a tree with other spans.
use Rattle.std.proofs.Common.{◌≡◌, ◌⊎◌, ℕ, suc, ◌-◌, ◌<◌, List, [], ◌∷◌, ◌++◌, map, Bool, true, false, Option, Some, None, cond, refl, ap, sym, ◌∙◌, subst, inl, inr, codes, arith}
use Rattle.std.specs.Prelude.{nat_eq}
use Rattle.std.proofs.lemmas.List.{append-nil}
use Rattle.token_trees.specs.declared.token.Span.{Span}
use Rattle.token_trees.specs.declared.token.Spacing.{Spacing}
use Rattle.token_trees.specs.declared.token.Spacing.TheVariants.{Joint}
use Rattle.token_trees.specs.declared.token.Delimiter.{Delimiter}
use Rattle.token_trees.specs.declared.token.Delimiter.TheVariants.{Parenthesis, Bracket, Brace}
use Rattle.token_trees.specs.Token.{Tok, word, mark, fixed, group, Toks, no_toks, tok, list_of, Fixed, Name, placed, all_placed, site}
use Rattle.syntax_trees.specs.Syntax.{LifetimeD, TyD, ty_array, ty_fn, ty_group, ty_impl, ty_infer, ty_macro, ty_never, ty_paren, ty_path, ty_pointer, ty_reference, ty_slice, ty_object, ty_tuple, ty_verbatim, PathD, path, SegmentD, segment, ArgumentsD, no_arguments, angle, parens, GenericD, arg_lifetime, arg_ty, arg_const, arg_assoc_ty, arg_assoc_const, arg_constraint, qself, ExprD, ex_binary, ex_call, ex_cast, ex_field, ex_index, ex_fixed, ex_paren, ex_path, ex_unary, ex_verbatim, ExprPathD, expr_path, BoundD, bound_trait, bound_lifetime, MaybeTy, no_ty, some_ty, no_qself, some_qself, Tys, end_tys, more_tys, Bounds, end_bounds, more_bounds, Segments, end_segments, more_segments, Generics, end_generics, more_generics}
use Rattle.syntax_parsers.specs.Fronts.{is_reserved}
use Rattle.syntax_parsers.specs.Spelling.{is_one, SignThen, PairThen, WordThen, NameThen, LifetimeThen, GroupThen, MaybeLifetimeThen, MutThen, ColonsThen, CloseThen, LastComma, ends_ty, ends_output, ends_path, ends_segments, ends_segment, ends_arguments, ends_bound, TyThen, OutputThen, TysThen, TysBehind, BoundThen, BoundsThen, BoundsBehind, PathThen, SegmentsThen, SegmentThen, ArgumentsThen, GenericsThen, GenericsBehind, GenericThen, ExprThen, ExprPathThen}
use Rattle.syntax_parsers.specs.SpellingForm.{has_bounds, segments_count, is_last, IsGroup, IsConstant, TyForm, OutputForm, TysForm, BoundForm, BoundsForm, PathForm, SegmentsForm, SegmentForm, ArgumentsForm, GenericsForm, GenericForm, LengthForm, ExprPathForm, IsNoLiteral, IsNoPath, TyLengths, OutputLengths, TysLengths, BoundLengths, BoundsLengths, PathLengths, SegmentsLengths, SegmentLengths, ArgumentsLengths, GenericsLengths, GenericLengths, LengthHeld, ExprPathLengths, IsParsedTy, IsParsedBounds, SpellsTy, SpellsPath, SpellsExprPath, SpellsBounds}
use Rattle.syntax_parsers.specs.SpellingAside.{name_at, lifetime_at, maybe_lifetime_at, output_at, tys_at, bound_at, bounds_at, path_at, segments_at, segment_at, arguments_at, generics_at, generic_at, expr_at, expr_path_at, SameToks, SameTy, SamePath, SameExprPath, SameBounds}
use Rattle.syntax_parsers.proofs.spelling.Reach.{tys_count}
use Rattle.syntax_parsers.proofs.spelling.Placed.{path_gives, segment_gives, bound_next_same}

abbrev bare : List Tok → List Tok
bare ts = map (placed site) ts

-- one token

word_head : (x : List ℕ) (r us : List Tok) → word x site ∷ r ≡ bare us → (s : Span) × (vs : List Tok) × (us ≡ word x s ∷ vs) × (r ≡ bare vs)
word_head x r [] e = absurd (cc)
word_head x r (word y s ∷ vs) e = let h : y ≡ x = cc in let t : r ≡ bare vs = cc in (s, vs, ap (λ z. word z s ∷ vs) h, t)
word_head x r (mark c j s ∷ vs) e = absurd (cc)
word_head x r (fixed l s ∷ vs) e = absurd (cc)
word_head x r (group d g s ∷ vs) e = absurd (cc)

mark_head : (c : ℕ) (j : Spacing) (r us : List Tok) → mark c j site ∷ r ≡ bare us → (s : Span) × (vs : List Tok) × (us ≡ mark c j s ∷ vs) × (r ≡ bare vs)
mark_head c j r [] e = absurd (cc)
mark_head c j r (word y s ∷ vs) e = absurd (cc)
mark_head c j r (mark d k s ∷ vs) e = let h : d ≡ c = cc in let i : k ≡ j = cc in let t : r ≡ bare vs = cc in (s, vs, ap (λ z. mark z k s ∷ vs) h ∙ ap (λ z. mark c z s ∷ vs) i, t)
mark_head c j r (fixed l s ∷ vs) e = absurd (cc)
mark_head c j r (group d g s ∷ vs) e = absurd (cc)

fixed_head : (l : Fixed) (r us : List Tok) → fixed l site ∷ r ≡ bare us → (s : Span) × (vs : List Tok) × (us ≡ fixed l s ∷ vs) × (r ≡ bare vs)
fixed_head l r [] e = absurd (cc)
fixed_head l r (word y s ∷ vs) e = absurd (cc)
fixed_head l r (mark d k s ∷ vs) e = absurd (cc)
fixed_head l r (fixed m s ∷ vs) e = let h : m ≡ l = cc in let t : r ≡ bare vs = cc in (s, vs, ap (λ z. fixed z s ∷ vs) h, t)
fixed_head l r (group d g s ∷ vs) e = absurd (cc)

group_head : (d : Delimiter) (g : Toks) (r us : List Tok) → group d g site ∷ r ≡ bare us → (s : Span) × (h : Toks) × (vs : List Tok) × (us ≡ group d h s ∷ vs) × (g ≡ all_placed site h) × (r ≡ bare vs)
group_head d g r [] e = absurd (cc)
group_head d g r (word y s ∷ vs) e = absurd (cc)
group_head d g r (mark c k s ∷ vs) e = absurd (cc)
group_head d g r (fixed m s ∷ vs) e = absurd (cc)
group_head d g r (group b h s ∷ vs) e = let i : b ≡ d = cc in let j : g ≡ all_placed site h = cc in let t : r ≡ bare vs = cc in (s, h, vs, ap (λ z. group z h s ∷ vs) i, j, t)

pub none_head : (us : List Tok) → [] ≡ bare us → us ≡ []
none_head [] e = refl
none_head (u ∷ us) e = absurd (cc)

inside : (g : Toks) → bare (list_of g) ≡ list_of (all_placed site g)
inside no_toks = refl
inside (tok t g) = ap (λ z. placed site t ∷ z) (inside g)

-- what stands in front

pub sign_moved : (c : ℕ) (ts rest us : List Tok) → SignThen c ts rest → SameToks ts us → (vs : List Tok) × SignThen c us vs × SameToks rest vs
sign_moved c ts rest us h k = let m = mark_head c h.0 (bare rest) us (sym (ap bare h.2) ∙ k) in (m.1, (h.0, m.0, m.2), m.3)

word_moved : (x : List ℕ) (ts rest us : List Tok) → WordThen x ts rest → SameToks ts us → (vs : List Tok) × WordThen x us vs × SameToks rest vs
word_moved x ts rest us h k = let m = word_head x (bare rest) us (sym (ap bare h.1) ∙ k) in (m.1, (m.0, m.2), m.3)

pair_moved : (c d : ℕ) (ts rest us : List Tok) → PairThen c d ts rest → SameToks ts us → (vs : List Tok) × PairThen c d us vs × SameToks rest vs
pair_moved c d ts rest us h k =
    let m = mark_head c Joint (mark d h.1 site ∷ bare rest) us (sym (ap bare h.3) ∙ k) in
    let n = mark_head d h.1 (bare rest) m.1 m.3 in
    (n.1, (m.0, h.1, n.0, m.2 ∙ ap (λ z. mark c Joint m.0 ∷ z) n.2), n.3)

name_moved : (x : Name) (ts rest us : List Tok) → NameThen x ts rest → SameToks ts us → (y : Name) × (vs : List Tok) × NameThen y us vs × (name_at site x ≡ name_at site y) × SameToks rest vs
name_moved x ts rest us h k =
    let m = word_head x.text (bare rest) us (sym (ap bare h) ∙ k) in
    (record { text = x.text; span = m.0 }, m.1, m.2, refl, m.3)

pub lifetime_moved : (l : LifetimeD) (ts rest us : List Tok) → LifetimeThen l ts rest → SameToks ts us → (k : LifetimeD) × (vs : List Tok) × LifetimeThen k us vs × (lifetime_at site l ≡ lifetime_at site k) × SameToks rest vs
lifetime_moved l ts rest us h k =
    let m = mark_head 39 Joint (word l.name.text site ∷ bare rest) us (sym (ap bare h) ∙ k) in
    let n = word_head l.name.text (bare rest) m.1 m.3 in
    (record { name = record { text = l.name.text; span = n.0 }; span = m.0 }, n.1, m.2 ∙ ap (λ z. mark 39 Joint m.0 ∷ z) n.2, refl, n.3)

group_moved : (d : Delimiter) (g : Toks) (ts rest us : List Tok) → GroupThen d g ts rest → SameToks ts us → (h : Toks) × (vs : List Tok) × GroupThen d h us vs × SameToks (list_of g) (list_of h) × SameToks rest vs
group_moved d g ts rest us h k =
    let m = group_head d (all_placed site g) (bare rest) us (sym (ap bare h.1) ∙ k) in
    (m.1, m.2, (m.0, m.3), inside g ∙ ap list_of m.4 ∙ sym (inside m.1), m.5)

pub same_moved : (ts rest us : List Tok) → ts ≡ rest → SameToks ts us → SameToks rest us
same_moved ts rest us h k = sym (ap bare h) ∙ k

append_moved : (m rest ts us : List Tok) → ts ≡ m ++ rest → SameToks ts us → (n : List Tok) × (vs : List Tok) × (us ≡ n ++ vs) × SameToks m n × SameToks rest vs
append_moved m rest ts us h k = front m us (sym (ap bare h) ∙ k)
  where
    front : (m us : List Tok) → bare (m ++ rest) ≡ bare us → (n : List Tok) × (vs : List Tok) × (us ≡ n ++ vs) × SameToks m n × SameToks rest vs
    front [] us e = ([], us, refl, refl, e)
    front (t ∷ m) [] e = absurd (cc)
    front (t ∷ m) (u ∷ us) e =
        let i : placed site t ≡ placed site u = cc in
        let j : bare (m ++ rest) ≡ bare us = cc in
        let g = front m us j in
        (u ∷ g.0, g.1, ap (λ z. u ∷ z) g.2, ap (λ z. z ∷ bare m) i ∙ ap (λ z. placed site u ∷ z) g.3, g.4)

maybe_lifetime_moved : (l : Option LifetimeD) (ts rest us : List Tok) → MaybeLifetimeThen l ts rest → SameToks ts us → (k : Option LifetimeD) × (vs : List Tok) × MaybeLifetimeThen k us vs × (maybe_lifetime_at site l ≡ maybe_lifetime_at site k) × SameToks rest vs
maybe_lifetime_moved None ts rest us h k = (None, us, refl, refl, same_moved ts rest us h k)
maybe_lifetime_moved (Some l) ts rest us h k = let m = lifetime_moved l ts rest us h k in (Some m.0, m.1, m.2, ap (λ z. Some z) m.3, m.4)

mut_moved : (b : Bool) (ts rest us : List Tok) → MutThen b ts rest → SameToks ts us → (vs : List Tok) × MutThen b us vs × SameToks rest vs
mut_moved false ts rest us h k = (us, refl, same_moved ts rest us h k)
mut_moved true ts rest us h k = word_moved (codes "mut") ts rest us h k

colons_moved : (b : Bool) (ts rest us : List Tok) → ColonsThen b ts rest → SameToks ts us → (vs : List Tok) × ColonsThen b us vs × SameToks rest vs
colons_moved false ts rest us h k = (us, refl, same_moved ts rest us h k)
colons_moved true ts rest us h k = pair_moved 58 58 ts rest us h k

close_moved : (b : Bool) (ts rest us : List Tok) → CloseThen b ts rest → SameToks ts us → (vs : List Tok) × CloseThen b us vs × SameToks rest vs
close_moved false ts rest us h k = (us, refl, same_moved ts rest us h k)
close_moved true ts rest us h k = sign_moved 62 ts rest us h k

front_end_moved : (b : Bool) (ts rest us : List Tok) → cond b (SignThen 62 ts rest) (WordThen (codes "as") ts rest) → SameToks ts us → (vs : List Tok) × cond b (SignThen 62 us vs) (WordThen (codes "as") us vs) × SameToks rest vs
front_end_moved true ts rest us h k = sign_moved 62 ts rest us h k
front_end_moved false ts rest us h k = word_moved (codes "as") ts rest us h k

last_comma_moved : (c : Bool) (ts us : List Tok) → LastComma c ts → SameToks ts us → LastComma c us
last_comma_moved false ts us h k = none_head us (same_moved ts [] us h k)
last_comma_moved true ts us h k = let m = sign_moved 44 ts [] us h k in subst (λ z. SignThen 44 us z) (none_head m.0 m.2) m.1

maybe_comma_moved : (ts a us : List Tok) → (ts ≡ a) ⊎ SignThen 44 ts a → SameToks ts us → (b : List Tok) × ((us ≡ b) ⊎ SignThen 44 us b) × SameToks a b
maybe_comma_moved ts a us (inl e) k = (us, inl refl, same_moved ts a us e k)
maybe_comma_moved ts a us (inr h) k = let m = sign_moved 44 ts a us h k in (m.0, inr m.1, m.2)

two : {A B C : Type 0} → (f : A → B → C) {a b : A} {c d : B} → a ≡ b → c ≡ d → f a c ≡ f b d
two f p q = cc

-- that no path is a printing of some tokens doesn't hang on their spans
abbrev Kept : Type 0
Kept = (m n : List Tok) → SameToks m n → IsNoPath m → IsNoPath n

one_same : (is js : Tys) → tys_count js ≡ tys_count is → is_one js ≡ is_one is
one_same end_tys end_tys e = refl
one_same end_tys (more_tys u js) e = absurd (omega (arith, e))
one_same (more_tys t is) end_tys e = absurd (omega (arith, e))
one_same (more_tys t end_tys) (more_tys u end_tys) e = refl
one_same (more_tys t end_tys) (more_tys u (more_tys v js)) e = absurd (omega (arith, e))
one_same (more_tys t (more_tys s is)) (more_tys u end_tys) e = absurd (omega (arith, e))
one_same (more_tys t (more_tys s is)) (more_tys u (more_tys v js)) e = refl

last_same : (ss xs : Segments) (n : ℕ) → segments_count xs ≡ segments_count ss → is_last n xs ≡ is_last n ss
last_same end_segments end_segments n e = refl
last_same end_segments (more_segments x xs) n e = absurd (omega (arith, e))
last_same (more_segments s ss) end_segments n e = absurd (omega (arith, e))
last_same (more_segments s ss) (more_segments x xs) n e = refl

abbrev TyMoved : TyD → List Tok → List Tok → Type 0
TyMoved t us rest = (u : TyD) × (vs : List Tok) × SameToks rest vs × TyForm u × TyThen u us vs × SameTy t u × (ends_ty u ≡ ends_ty t) × (Kept → TyLengths t → TyLengths u)

abbrev OutputMoved : MaybeTy → List Tok → List Tok → Type 0
OutputMoved o us rest = (u : MaybeTy) × (vs : List Tok) × SameToks rest vs × OutputForm u × OutputThen u us vs × (output_at site o ≡ output_at site u) × (ends_output u ≡ ends_output o) × (Kept → OutputLengths o → OutputLengths u)

abbrev TysMoved : (Tys → List Tok → Type 0) → Tys → List Tok → Type 0
TysMoved P is us = (js : Tys) × TysForm js × P js us × (tys_at site is ≡ tys_at site js) × (tys_count js ≡ tys_count is) × (Kept → TysLengths is → TysLengths js)

abbrev BoundMoved : BoundD → List Tok → List Tok → Type 0
BoundMoved b us rest = (u : BoundD) × (vs : List Tok) × SameToks rest vs × BoundForm u × BoundThen u us vs × (bound_at site b ≡ bound_at site u) × (ends_bound u ≡ ends_bound b) × (Kept → BoundLengths b → BoundLengths u)

abbrev BoundsMoved : (Bounds → List Tok → List Tok → Type 0) → Bounds → List Tok → List Tok → Type 0
BoundsMoved P bs us rest = (cs : Bounds) × (vs : List Tok) × SameToks rest vs × BoundsForm cs × P cs us vs × (bounds_at site bs ≡ bounds_at site cs) × (has_bounds cs ≡ has_bounds bs) × (Kept → BoundsLengths bs → BoundsLengths cs)

abbrev SegmentsMoved : ℕ → Bool → Segments → List Tok → List Tok → Type 0
SegmentsMoved n l ss us rest = (xs : Segments) × (vs : List Tok) × SameToks rest vs × SegmentsForm n xs × SegmentsThen n l xs us vs × (segments_at site ss ≡ segments_at site xs) × (segments_count xs ≡ segments_count ss) × ((was : Bool) → ends_segments was xs ≡ ends_segments was ss) × (Kept → SegmentsLengths ss → SegmentsLengths xs)

abbrev PathMoved : PathD → List Tok → List Tok → Type 0
PathMoved p us rest = (q : PathD) × (vs : List Tok) × SameToks rest vs × PathForm q × PathThen q us vs × (path_at site p ≡ path_at site q) × (ends_path q ≡ ends_path p) × (Kept → PathLengths p → PathLengths q)

abbrev SegmentMoved : SegmentD → List Tok → List Tok → Type 0
SegmentMoved s us rest = (y : SegmentD) × (vs : List Tok) × SameToks rest vs × SegmentForm y × SegmentThen y us vs × (segment_at site s ≡ segment_at site y) × (ends_segment y ≡ ends_segment s) × (Kept → SegmentLengths s → SegmentLengths y)

abbrev ArgumentsMoved : ArgumentsD → List Tok → List Tok → Type 0
ArgumentsMoved a us rest = (b : ArgumentsD) × (vs : List Tok) × SameToks rest vs × ArgumentsForm b × ArgumentsThen b us vs × (arguments_at site a ≡ arguments_at site b) × (ends_arguments b ≡ ends_arguments a) × (Kept → ArgumentsLengths a → ArgumentsLengths b)

abbrev GenericMoved : GenericD → List Tok → List Tok → Type 0
GenericMoved g us rest = (h : GenericD) × (vs : List Tok) × SameToks rest vs × GenericForm h × GenericThen h us vs × (generic_at site g ≡ generic_at site h) × (Kept → GenericLengths g → GenericLengths h)

abbrev GenericsMoved : (Generics → List Tok → List Tok → Type 0) → Generics → List Tok → List Tok → Type 0
GenericsMoved P gs us rest = (hs : Generics) × (vs : List Tok) × SameToks rest vs × GenericsForm hs × P hs us vs × (generics_at site gs ≡ generics_at site hs) × (Kept → GenericsLengths gs → GenericsLengths hs)

abbrev ConstantMoved : ExprD → List Tok → List Tok → Type 0
ConstantMoved e us rest = (x : ExprD) × (vs : List Tok) × SameToks rest vs × IsConstant x × ExprThen x us vs × (expr_at site e ≡ expr_at site x)

abbrev LengthMoved : ExprD → List Tok → Type 0
LengthMoved e us = (x : ExprD) × LengthForm x × ExprThen x us [] × (expr_at site e ≡ expr_at site x) × (Kept → LengthHeld e → LengthHeld x)

abbrev ExprPathMoved : ExprPathD → List Tok → List Tok → Type 0
ExprPathMoved p us rest = (q : ExprPathD) × (vs : List Tok) × SameToks rest vs × ExprPathForm q × ExprPathThen q us vs × (expr_path_at site p ≡ expr_path_at site q) × (Kept → ExprPathLengths p → ExprPathLengths q)

group_alone : (m n : List Tok) → IsGroup m → SameToks m n → IsGroup n
group_alone m n i k =
    let g = group_head i.0 (all_placed site i.1) [] n (sym (ap bare i.3) ∙ k) in
    (i.0, g.1, g.0, g.3 ∙ ap (λ z. group i.0 g.1 g.0 ∷ z) (none_head g.2 g.5), i.4)

constant_moved : (e : ExprD) (ts rest us : List Tok) → IsConstant e → ExprThen e ts rest → SameToks ts us → ConstantMoved e us rest
constant_moved (ex_binary a o b) ts rest us f h k = absurd f
constant_moved (ex_call g xs) ts rest us f h k = absurd f
constant_moved (ex_cast e t) ts rest us f h k = absurd f
constant_moved (ex_field e m) ts rest us f h k = absurd f
constant_moved (ex_index e i) ts rest us f h k = absurd f
constant_moved (ex_fixed l s) ts rest us f h k = let m = fixed_head l (bare rest) us (sym (ap bare h) ∙ k) in (ex_fixed l m.0, m.1, m.3, tt, m.2, refl)
constant_moved (ex_paren e) ts rest us f h k = absurd f
constant_moved (ex_path p) ts rest us f h k = absurd f
constant_moved (ex_unary o e) ts rest us f h k = absurd f
constant_moved (ex_verbatim m) ts rest us f h k =
    let a = append_moved m rest ts us h k in
    (ex_verbatim a.0, a.1, a.4, form f a.0 a.3, a.2, ap ex_verbatim a.3)
  where
    form : IsConstant (ex_verbatim m) → (n : List Tok) → SameToks m n → IsConstant (ex_verbatim n)
    form (inl f) n e =
        let x = mark_head 45 f.0 (fixed f.2 site ∷ []) n (sym (ap bare f.4) ∙ e) in
        let y = fixed_head f.2 [] x.1 x.3 in
        inl (f.0, x.0, f.2, y.0, x.2 ∙ ap (λ z. mark 45 f.0 x.0 ∷ z) (y.2 ∙ ap (λ z. fixed f.2 y.0 ∷ z) (none_head y.1 y.3)))
    form (inr f) n e =
        let x = group_head Brace (all_placed site f.0) [] n (sym (ap bare f.2) ∙ e) in
        inr (x.1, x.0, x.3 ∙ ap (λ z. group Brace x.1 x.0 ∷ z) (none_head x.2 x.5))

verbatim_moved : (m ts us : List Tok) → LengthForm (ex_verbatim m) → ExprThen (ex_verbatim m) ts [] → SameToks ts us → LengthMoved (ex_verbatim m) us
verbatim_moved m ts us f h k = (ex_verbatim us, some us same, sym (append-nil us), ap ex_verbatim same, λ q l. (no_literal l.0, q m us same l.1))
  where
    same : SameToks m us
    same = sym (ap bare (h ∙ append-nil m)) ∙ k

    some : (us : List Tok) → SameToks m us → LengthForm (ex_verbatim us)
    some [] e = let z : bare (f.0 ∷ f.1) ≡ [] = sym (ap bare f.2) ∙ e in absurd (cc)
    some (u ∷ us) e = (u, us, refl)

    no_literal : IsNoLiteral m → IsNoLiteral us
    no_literal n l s e =
        let x = fixed_head l [] m (sym (ap bare e) ∙ sym same) in
        n l x.0 (x.2 ∙ ap (λ z. fixed l x.0 ∷ z) (none_head x.1 x.3))

more_count : (t u : TyD) (is js : Tys) → tys_count js ≡ tys_count is → tys_count (more_tys u js) ≡ tys_count (more_tys t is)
more_count t u is js e = ap suc e

mutual
  ty_moved : (t : TyD) (ts rest us : List Tok) → TyForm t → TyThen t ts rest → SameToks ts us → TyMoved t us rest
  ty_moved (ty_array t e) ts rest us f h k =
      let g = group_moved Bracket h.0 ts rest us h.3 k in
      let a = ty_moved t (list_of h.0) h.1 (list_of g.0) f.0 h.4 g.3 in
      let b = sign_moved 59 h.1 h.2 a.1 h.5 a.2 in
      let c = length_moved e h.2 b.0 f.1 h.6 b.2 in
      (ty_array a.0 c.0, g.1, g.4, (a.3, c.1), (g.0, a.1, b.0, g.2, a.4, b.1, c.2), two ty_array a.5 c.3, refl, λ q l. (a.7 q l.0, c.4 q l.1))
  ty_moved (ty_fn is o) ts rest us f h k =
      let w = word_moved (codes "fn") ts h.2 us h.4 k in
      let g = group_moved Parenthesis h.0 h.2 h.3 w.0 h.5 w.2 in
      let a = tys_moved is h.1 (list_of h.0) (list_of g.0) f.0 h.6 g.3 in
      let b = output_moved o h.3 rest g.1 f.1 h.7 g.4 in
      (ty_fn a.0 b.0, b.1, b.2, (a.1, b.3), (g.0, h.1, w.0, g.1, w.1, g.2, a.2, b.4), two ty_fn a.3 b.5, b.6, λ q l. (a.5 q l.0, b.7 q l.1))
  ty_moved (ty_group t) ts rest us f h k = absurd f
  ty_moved (ty_impl bs) ts rest us f h k =
      let w = word_moved (codes "impl") ts h.0 us h.1 k in
      let a = bounds_moved bs h.0 rest w.0 f.1 h.2 w.2 in
      (ty_impl a.0, a.1, a.2, (a.6 ∙ f.0, a.3), (w.0, w.1, a.4), ap ty_impl a.5, refl, a.7)
  ty_moved (ty_infer s) ts rest us f h k =
      let w = word_head (codes "_") (bare rest) us (sym (ap bare h) ∙ k) in
      (ty_infer w.0, w.1, w.3, tt, w.2, refl, refl, λ q l. tt)
  ty_moved (ty_macro p m) ts rest us f h k =
      let a = path_moved p ts h.0 us f.0 h.2 k in
      let b = sign_moved 33 h.0 h.1 a.1 h.3 a.2 in
      let c = append_moved m rest h.1 b.0 h.4 b.2 in
      (ty_macro a.0 c.0, c.1, c.4, (a.3, path_gives p a.0 a.5 ∙ f.1, group_alone m c.0 f.2 c.3), (a.1, b.0, a.4, b.1, c.2), two ty_macro a.5 c.3, refl, a.7)
  ty_moved (ty_never s) ts rest us f h k =
      let w = mark_head 33 h.0 (bare rest) us (sym (ap bare h.1) ∙ k) in
      (ty_never w.0, w.1, w.3, tt, (h.0, w.2), refl, refl, λ q l. tt)
  ty_moved (ty_paren t) ts rest us f h k =
      let g = group_moved Parenthesis h.0 ts rest us h.1 k in
      let a = ty_moved t (list_of h.0) [] (list_of g.0) f h.2 g.3 in
      (ty_paren a.0, g.1, g.4, a.3, (g.0, g.2, subst (λ z. TyThen a.0 (list_of g.0) z) (none_head a.1 a.2) a.4), ap ty_paren a.5, refl, a.7)
  ty_moved (ty_path no_qself (path l ss)) ts rest us f h k =
      let a = segments_moved ss 0 l h.0 rest us f.1.1 h.2 (same_moved ts h.0 us h.1 k) in
      (ty_path no_qself (path l a.0), a.1, a.2, (tt, (subst (λ z. 0 < z) (sym a.6) f.1.0, a.3)), (us, refl, a.4), ap (λ z. ty_path no_qself (path l z)) a.5, a.7 false, λ q n. (tt, a.8 q n.1))
  ty_moved (ty_path (some_qself (qself t n)) (path l ss)) ts rest us f h k =
      let b = sign_moved 60 ts h.1.0 us h.1.2 k in
      let c = ty_moved t h.1.0 h.1.1 b.0 f.0.0 h.1.3 b.2 in
      let d = front_end_moved (nat_eq n 0) h.1.1 h.0 c.1 h.1.4 c.2 in
      let a = segments_moved ss n l h.0 rest d.0 f.1.1 h.2 d.2 in (
        ty_path (some_qself (qself c.0 n)) (path l a.0),
        a.1,
        a.2,
        ((c.3, subst (λ z. n < z) (sym a.6) f.0.1, f.0.2), (subst (λ z. 0 < z) (sym a.6) f.1.0, a.3)),
        (d.0, (b.0, c.1, b.1, c.4, d.1), a.4),
        two (λ y z. ty_path (some_qself (qself y n)) (path l z)) c.5 a.5,
        a.7 false,
        λ q m. (c.7 q m.0, a.8 q m.1),
      )
  ty_moved (ty_pointer m t) ts rest us f h k =
      let b = sign_moved 42 ts h.0 us h.2 k in
      let c = word_moved (cond m (codes "mut") (codes "const")) h.0 h.1 b.0 h.3 b.2 in
      let a = ty_moved t h.1 rest c.0 f h.4 c.2 in
      (ty_pointer m a.0, a.1, a.2, a.3, (b.0, c.0, b.1, c.1, a.4), ap (ty_pointer m) a.5, a.6, a.7)
  ty_moved (ty_reference l m t) ts rest us f h k =
      let b = sign_moved 38 ts h.0 us h.3 k in
      let c = maybe_lifetime_moved l h.0 h.1 b.0 h.4 b.2 in
      let d = mut_moved m h.1 h.2 c.1 h.5 c.4 in
      let a = ty_moved t h.2 rest d.0 f h.6 d.2 in
      (ty_reference c.0 m a.0, a.1, a.2, a.3, (b.0, c.1, d.0, b.1, c.2, d.1, a.4), two (λ y z. ty_reference y m z) c.3 a.5, a.6, a.7)
  ty_moved (ty_slice t) ts rest us f h k =
      let g = group_moved Bracket h.0 ts rest us h.1 k in
      let a = ty_moved t (list_of h.0) [] (list_of g.0) f h.2 g.3 in
      (ty_slice a.0, g.1, g.4, a.3, (g.0, g.2, subst (λ z. TyThen a.0 (list_of g.0) z) (none_head a.1 a.2) a.4), ap ty_slice a.5, refl, a.7)
  ty_moved (ty_object bs) ts rest us f h k =
      let w = word_moved (codes "dyn") ts h.0 us h.1 k in
      let a = bounds_moved bs h.0 rest w.0 f.1 h.2 w.2 in
      (ty_object a.0, a.1, a.2, (a.6 ∙ f.0, a.3), (w.0, w.1, a.4), ap ty_object a.5, refl, a.7)
  ty_moved (ty_tuple is) ts rest us f h k =
      let g = group_moved Parenthesis h.0 ts rest us h.2 k in
      let a = tys_moved is h.1 (list_of h.0) (list_of g.0) f h.3 g.3 in
      (ty_tuple a.0, g.1, g.4, a.1, (g.0, h.1, g.2, a.2, λ q. h.4 (sym (one_same is a.0 a.4) ∙ q)), ap ty_tuple a.3, refl, a.5)
  ty_moved (ty_verbatim m) ts rest us f h k = absurd f

  output_moved : (o : MaybeTy) (ts rest us : List Tok) → OutputForm o → OutputThen o ts rest → SameToks ts us → OutputMoved o us rest
  output_moved no_ty ts rest us f h k = (no_ty, us, same_moved ts rest us h k, tt, refl, refl, refl, λ q l. tt)
  output_moved (some_ty t) ts rest us f h k =
      let b = pair_moved 45 62 ts h.0 us h.1 k in
      let a = ty_moved t h.0 rest b.0 f h.2 b.2 in
      (some_ty a.0, a.1, a.2, a.3, (b.0, b.1, a.4), ap some_ty a.5, a.6, a.7)

  tys_moved : (is : Tys) (c : Bool) (ts us : List Tok) → TysForm is → TysThen c is ts → SameToks ts us → TysMoved (TysThen c) is us
  tys_moved end_tys c ts us f h k = (end_tys, tt, (none_head us (same_moved ts [] us h.0 k), h.1), refl, refl, λ q l. tt)
  tys_moved (more_tys t is) c ts us f h k =
      let a = ty_moved t ts h.0 us f.0 h.1 k in
      let b = tys_behind_moved is c h.0 a.1 f.1 h.2 a.2 in
      (more_tys a.0 b.0, (a.3, b.1), (a.1, a.4, b.2), two more_tys a.5 b.3, more_count t a.0 is b.0 b.4, λ q l. (a.7 q l.0, b.5 q l.1))

  tys_behind_moved : (is : Tys) (c : Bool) (ts us : List Tok) → TysForm is → TysBehind c is ts → SameToks ts us → TysMoved (TysBehind c) is us
  tys_behind_moved end_tys c ts us f h k = (end_tys, tt, last_comma_moved c ts us h k, refl, refl, λ q l. tt)
  tys_behind_moved (more_tys t is) c ts us f h k =
      let w = sign_moved 44 ts h.0 us h.2 k in
      let a = ty_moved t h.0 h.1 w.0 f.0 h.3 w.2 in
      let b = tys_behind_moved is c h.1 a.1 f.1 h.4 a.2 in
      (more_tys a.0 b.0, (a.3, b.1), (w.0, a.1, w.1, a.4, b.2), two more_tys a.5 b.3, more_count t a.0 is b.0 b.4, λ q l. (a.7 q l.0, b.5 q l.1))

  bound_moved : (b : BoundD) (ts rest us : List Tok) → BoundForm b → BoundThen b ts rest → SameToks ts us → BoundMoved b us rest
  bound_moved (bound_trait p) ts rest us f h k =
      let a = path_moved p ts rest us f h k in
      (bound_trait a.0, a.1, a.2, a.3, a.4, ap bound_trait a.5, a.6, a.7)
  bound_moved (bound_lifetime l) ts rest us f h k =
      let a = lifetime_moved l ts rest us h k in
      (bound_lifetime a.0, a.1, a.4, tt, a.2, ap bound_lifetime a.3, refl, λ q l. tt)

  bounds_moved : (bs : Bounds) (ts rest us : List Tok) → BoundsForm bs → BoundsThen bs ts rest → SameToks ts us → BoundsMoved BoundsThen bs us rest
  bounds_moved end_bounds ts rest us f h k = (end_bounds, us, same_moved ts rest us h k, tt, refl, refl, refl, λ q l. tt)
  bounds_moved (more_bounds b bs) ts rest us f h k =
      let a = bound_moved b ts h.0 us f.0 h.1 k in
      let c = bounds_behind_moved bs (ends_bound b) h.0 rest a.1 f.2 h.2 a.2 in
      (more_bounds a.0 c.0, c.1, c.2, (a.3, (λ q. a.6 ∙ f.1 (sym c.6 ∙ q)), c.3), (a.1, a.4, subst (λ z. BoundsBehind z c.0 a.1 c.1) (sym a.6) c.4), two more_bounds a.5 c.5, refl, λ q l. (a.7 q l.0, c.7 q l.1))

  bounds_behind_moved : (bs : Bounds) (o : Bool) (ts rest us : List Tok) → BoundsForm bs → BoundsBehind o bs ts rest → SameToks ts us → BoundsMoved (BoundsBehind o) bs us rest
  bounds_behind_moved end_bounds o ts rest us f (inl h) k = (end_bounds, us, same_moved ts rest us h k, tt, inl refl, refl, refl, λ q l. tt)
  bounds_behind_moved end_bounds o ts rest us f (inr h) k = let w = sign_moved 43 ts rest us h.0 k in (end_bounds, w.0, w.2, tt, inr (w.1, h.1, bound_next_same rest w.0 w.2 ∙ h.2), refl, refl, λ q l. tt)
  bounds_behind_moved (more_bounds b bs) o ts rest us f h k =
      let w = sign_moved 43 ts h.0 us h.2 k in
      let a = bound_moved b h.0 h.1 w.0 f.0 h.3 w.2 in
      let c = bounds_behind_moved bs (ends_bound b) h.1 rest a.1 f.2 h.4 a.2 in
      (more_bounds a.0 c.0, c.1, c.2, (a.3, (λ q. a.6 ∙ f.1 (sym c.6 ∙ q)), c.3), (w.0, a.1, w.1, a.4, subst (λ z. BoundsBehind z c.0 a.1 c.1) (sym a.6) c.4), two more_bounds a.5 c.5, refl, λ q l. (a.7 q l.0, c.7 q l.1))

  path_moved : (p : PathD) (ts rest us : List Tok) → PathForm p → PathThen p ts rest → SameToks ts us → PathMoved p us rest
  path_moved (path l ss) ts rest us f h k =
      let a = segments_moved ss 0 l ts rest us f.1 h k in
      (path l a.0, a.1, a.2, (subst (λ z. 0 < z) (sym a.6) f.0, a.3), a.4, ap (path l) a.5, a.7 false, a.8)

  segments_moved : (ss : Segments) (n : ℕ) (l : Bool) (ts rest us : List Tok) → SegmentsForm n ss → SegmentsThen n l ss ts rest → SameToks ts us → SegmentsMoved n l ss us rest
  segments_moved end_segments n l ts rest us f h k = (end_segments, us, same_moved ts rest us h k, tt, refl, refl, refl, (λ was. refl), λ q l. tt)
  segments_moved (more_segments s ss) n l ts rest us f h k =
      let c = colons_moved l ts h.0 us h.3 k in
      let a = segment_moved s h.0 h.1 c.0 f.0 h.4 c.2 in
      let d = close_moved (nat_eq n 1) h.1 h.2 a.1 h.5 a.2 in
      let b = segments_moved ss (n - 1) true h.2 rest d.0 f.2 h.6 d.2 in (
        more_segments a.0 b.0,
        b.1,
        b.2,
        (a.3, (λ g. last_same ss b.0 n b.6 ∙ f.1 (sym (segment_gives s a.0 a.5) ∙ g)), b.3),
        (c.0, a.1, d.0, c.1, a.4, d.1, b.4),
        two more_segments a.5 b.5,
        ap suc b.6,
        (λ was. b.7 (ends_segment a.0) ∙ ap (λ z. ends_segments z ss) a.6),
        λ q l. (a.7 q l.0, b.8 q l.1),
      )

  segment_moved : (s : SegmentD) (ts rest us : List Tok) → SegmentForm s → SegmentThen s ts rest → SameToks ts us → SegmentMoved s us rest
  segment_moved (segment x a) ts rest us f h k =
      let n = name_moved x ts h.0 us h.1 k in
      let b = arguments_moved a h.0 rest n.1 f.1 h.2 n.4 in
      (segment n.0 b.0, b.1, b.2, (ap (λ z. is_reserved z.text) (sym n.3) ∙ f.0, b.3), (n.1, n.2, b.4), two segment n.3 b.5, b.6, b.7)

  arguments_moved : (a : ArgumentsD) (ts rest us : List Tok) → ArgumentsForm a → ArgumentsThen a ts rest → SameToks ts us → ArgumentsMoved a us rest
  arguments_moved no_arguments ts rest us f h k = (no_arguments, us, same_moved ts rest us h k, tt, refl, refl, refl, λ q l. tt)
  arguments_moved (angle t gs) ts rest us f h k =
      let c = colons_moved t ts h.0 us h.2 k in
      let d = sign_moved 60 h.0 h.1 c.0 h.3 c.2 in
      let a = generics_moved gs h.1 rest d.0 f h.4 d.2 in
      (angle t a.0, a.1, a.2, a.3, (c.0, d.0, c.1, d.1, a.4), ap (angle t) a.5, refl, a.6)
  arguments_moved (parens is o) ts rest us f h k =
      let g = group_moved Parenthesis h.0 ts h.2 us h.3 k in
      let a = tys_moved is h.1 (list_of h.0) (list_of g.0) f.0 h.4 g.3 in
      let b = output_moved o h.2 rest g.1 f.1 h.5 g.4 in
      (parens a.0 b.0, b.1, b.2, (a.1, b.3), (g.0, h.1, g.1, g.2, a.2, b.4), two parens a.3 b.5, b.6, λ q l. (a.5 q l.0, b.7 q l.1))

  generics_moved : (gs : Generics) (ts rest us : List Tok) → GenericsForm gs → GenericsThen gs ts rest → SameToks ts us → GenericsMoved GenericsThen gs us rest
  generics_moved end_generics ts rest us f h k = let w = sign_moved 62 ts rest us h k in (end_generics, w.0, w.2, tt, w.1, refl, λ q l. tt)
  generics_moved (more_generics g gs) ts rest us f h k =
      let a = generic_moved g ts h.0 us f.0 h.1 k in
      let b = generics_behind_moved gs h.0 rest a.1 f.1 h.2 a.2 in
      (more_generics a.0 b.0, b.1, b.2, (a.3, b.3), (a.1, a.4, b.4), two more_generics a.5 b.5, λ q l. (a.6 q l.0, b.6 q l.1))

  generics_behind_moved : (gs : Generics) (ts rest us : List Tok) → GenericsForm gs → GenericsBehind gs ts rest → SameToks ts us → GenericsMoved GenericsBehind gs us rest
  generics_behind_moved end_generics ts rest us f h k =
      let c = maybe_comma_moved ts h.0 us h.1 k in
      let w = sign_moved 62 h.0 rest c.0 h.2 c.2 in
      (end_generics, w.0, w.2, tt, (c.0, c.1, w.1), refl, λ q l. tt)
  generics_behind_moved (more_generics g gs) ts rest us f h k =
      let w = sign_moved 44 ts h.0 us h.2 k in
      let a = generic_moved g h.0 h.1 w.0 f.0 h.3 w.2 in
      let b = generics_behind_moved gs h.1 rest a.1 f.1 h.4 a.2 in
      (more_generics a.0 b.0, b.1, b.2, (a.3, b.3), (w.0, a.1, w.1, a.4, b.4), two more_generics a.5 b.5, λ q l. (a.6 q l.0, b.6 q l.1))

  generic_moved : (g : GenericD) (ts rest us : List Tok) → GenericForm g → GenericThen g ts rest → SameToks ts us → GenericMoved g us rest
  generic_moved (arg_lifetime l) ts rest us f h k = let a = lifetime_moved l ts rest us h k in (arg_lifetime a.0, a.1, a.4, tt, a.2, ap arg_lifetime a.3, λ q l. tt)
  generic_moved (arg_ty t) ts rest us f h k = let a = ty_moved t ts rest us f h k in (arg_ty a.0, a.1, a.2, a.3, a.4, ap arg_ty a.5, a.7)
  generic_moved (arg_const e) ts rest us f h k = let a = constant_moved e ts rest us f h k in (arg_const a.0, a.1, a.2, a.3, a.4, ap arg_const a.5, λ q l. tt)
  generic_moved (arg_assoc_ty x t) ts rest us f h k =
      let n = name_moved x ts h.0 us h.2 k in
      let w = sign_moved 61 h.0 h.1 n.1 h.3 n.4 in
      let a = ty_moved t h.1 rest w.0 f h.4 w.2 in
      (arg_assoc_ty n.0 a.0, a.1, a.2, a.3, (n.1, w.0, n.2, w.1, a.4), two arg_assoc_ty n.3 a.5, a.7)
  generic_moved (arg_assoc_const x e) ts rest us f h k =
      let n = name_moved x ts h.0 us h.2 k in
      let w = sign_moved 61 h.0 h.1 n.1 h.3 n.4 in
      let a = constant_moved e h.1 rest w.0 f h.4 w.2 in
      (arg_assoc_const n.0 a.0, a.1, a.2, a.3, (n.1, w.0, n.2, w.1, a.4), two arg_assoc_const n.3 a.5, λ q l. tt)
  generic_moved (arg_constraint x bs) ts rest us f h k =
      let n = name_moved x ts h.0 us h.2 k in
      let w = sign_moved 58 h.0 h.1 n.1 h.3 n.4 in
      let a = bounds_moved bs h.1 rest w.0 f h.4 w.2 in
      (arg_constraint n.0 a.0, a.1, a.2, a.3, (n.1, w.0, n.2, w.1, a.4), two arg_constraint n.3 a.5, a.7)

  length_moved : (e : ExprD) (ts us : List Tok) → LengthForm e → ExprThen e ts [] → SameToks ts us → LengthMoved e us
  length_moved (ex_binary a o b) ts us f h k = absurd f
  length_moved (ex_call g xs) ts us f h k = absurd f
  length_moved (ex_cast e t) ts us f h k = absurd f
  length_moved (ex_field e m) ts us f h k = absurd f
  length_moved (ex_index e i) ts us f h k = absurd f
  length_moved (ex_fixed l s) ts us f h k =
      let m = fixed_head l [] us (sym (ap bare h) ∙ k) in
      (ex_fixed l m.0, tt, m.2 ∙ ap (λ z. fixed l m.0 ∷ z) (none_head m.1 m.3), refl, λ q l. tt)
  length_moved (ex_paren e) ts us f h k = absurd f
  length_moved (ex_path p) ts us f h k =
      let a = expr_path_moved p ts [] us f h k in
      (ex_path a.0, a.3, subst (λ z. ExprPathThen a.0 us z) (none_head a.1 a.2) a.4, ap ex_path a.5, a.6)
  length_moved (ex_unary o e) ts us f h k = absurd f
  length_moved (ex_verbatim m) ts us f h k = verbatim_moved m ts us f h k

  expr_path_moved : (p : ExprPathD) (ts rest us : List Tok) → ExprPathForm p → ExprPathThen p ts rest → SameToks ts us → ExprPathMoved p us rest
  expr_path_moved (expr_path no_qself (path l ss)) ts rest us f h k =
      let a = segments_moved ss 0 l h.0 rest us f.1.1 h.2 (same_moved ts h.0 us h.1 k) in
      (expr_path no_qself (path l a.0), a.1, a.2, (tt, (subst (λ z. 0 < z) (sym a.6) f.1.0, a.3)), (us, refl, a.4), ap (λ z. expr_path no_qself (path l z)) a.5, λ q n. (tt, a.8 q n.1))
  expr_path_moved (expr_path (some_qself (qself t n)) (path l ss)) ts rest us f h k =
      let b = sign_moved 60 ts h.1.0 us h.1.2 k in
      let c = ty_moved t h.1.0 h.1.1 b.0 f.0.0 h.1.3 b.2 in
      let d = front_end_moved (nat_eq n 0) h.1.1 h.0 c.1 h.1.4 c.2 in
      let a = segments_moved ss n l h.0 rest d.0 f.1.1 h.2 d.2 in (
        expr_path (some_qself (qself c.0 n)) (path l a.0),
        a.1,
        a.2,
        ((c.3, subst (λ z. n < z) (sym a.6) f.0.1, f.0.2), (subst (λ z. 0 < z) (sym a.6) f.1.0, a.3)),
        (d.0, (b.0, c.1, b.1, c.4, d.1), a.4),
        two (λ y z. expr_path (some_qself (qself y n)) (path l z)) c.5 a.5,
        λ q m. (c.7 q m.0, a.8 q m.1),
      )

kept : Kept
kept m n k h p f q =
    let a = expr_path_moved p n [] m f q (sym k) in
    h a.0 a.3 (subst (λ z. ExprPathThen a.0 m z) (none_head a.1 a.2) a.4)

pub ty_aside : (ts us : List Tok) (t : TyD) → SpellsTy ts t → SameToks ts us → (u : TyD) × SpellsTy us u × SameTy t u
ty_aside ts us t h k =
    let a = ty_moved t ts [] us h.0.0 h.1 k in
    (a.0, ((a.3, a.7 kept h.0.1), subst (λ z. TyThen a.0 us z) (none_head a.1 a.2) a.4), a.5)

pub path_aside : (ts us : List Tok) (p : PathD) → SpellsPath ts p → SameToks ts us → (q : PathD) × SpellsPath us q × SamePath p q
path_aside ts us p h k =
    let a = path_moved p ts [] us h.0.0 h.1 k in
    (a.0, ((a.3, a.7 kept h.0.1), subst (λ z. PathThen a.0 us z) (none_head a.1 a.2) a.4), a.5)

pub expr_path_aside : (ts us : List Tok) (p : ExprPathD) → SpellsExprPath ts p → SameToks ts us → (q : ExprPathD) × SpellsExprPath us q × SameExprPath p q
expr_path_aside ts us p h k =
    let a = expr_path_moved p ts [] us h.0.0 h.1 k in
    (a.0, ((a.3, a.6 kept h.0.1), subst (λ z. ExprPathThen a.0 us z) (none_head a.1 a.2) a.4), a.5)

pub bounds_aside : (ts us : List Tok) (bs : Bounds) → SpellsBounds ts bs → SameToks ts us → (cs : Bounds) × SpellsBounds us cs × SameBounds bs cs
bounds_aside ts us bs h k =
    let a = bounds_moved bs ts [] us h.0.0 h.1 k in
    (a.0, ((a.3, a.7 kept h.0.1), subst (λ z. BoundsThen a.0 us z) (none_head a.1 a.2) a.4), a.5)

-- what stands in front
pub ty_front_aside : (ts rest us : List Tok) (t : TyD) → IsParsedTy t → TyThen t ts rest → SameToks ts us → (u : TyD) × (vs : List Tok) × IsParsedTy u × TyThen u us vs × SameTy t u × SameToks rest vs
ty_front_aside ts rest us t f h k = let a = ty_moved t ts rest us f.0 h k in (a.0, a.1, (a.3, a.7 kept f.1), a.4, a.5, a.2)

pub bounds_front_aside : (ts rest us : List Tok) (bs : Bounds) → IsParsedBounds bs → BoundsThen bs ts rest → SameToks ts us → (cs : Bounds) × (vs : List Tok) × IsParsedBounds cs × BoundsThen cs us vs × SameBounds bs cs × SameToks rest vs
bounds_front_aside ts rest us bs f h k = let a = bounds_moved bs ts rest us f.0 h k in (a.0, a.1, (a.3, a.7 kept f.1), a.4, a.5, a.2)
