-- What a test of the front says of the tokens.
use Rattle.std.proofs.Common.{◌≡◌, ◌&&◌, ◌⊎◌, ℕ, List, [], ◌∷◌, Bool, true, false, Some, None, cond, refl, ap, sym, ◌∙◌, inl, inr}
use Rattle.std.specs.Prelude.{Option, Result, Ok, Err, nat_eq, bytes_eq}
use Rattle.std.proofs.lemmas.Bool.{eqb-true}
use Rattle.std.proofs.lemmas.Slice.Eq.{bytes_eq-Decides}
use Rattle.token_trees.specs.declared.token.Span.{Span}
use Rattle.token_trees.specs.declared.token.Spacing.{Spacing}
use Rattle.token_trees.specs.declared.token.Spacing.TheVariants.{Alone, Joint}
use Rattle.token_trees.specs.declared.token.Delimiter.{Delimiter}
use Rattle.token_trees.specs.declared.token.Delimiter.TheVariants.{Parenthesis, Bracket, Brace, None as Bare}
use Rattle.token_trees.specs.Token.{Tok, word, mark, fixed, group, Toks, Fixed, Name, list_of}
use Rattle.syntax_trees.specs.Syntax.{LifetimeD}
use Rattle.syntax_trees.specs.Metas.{is_sign, is_joint, sign_next}
use Rattle.syntax_trees.specs.declared.cursor.SyntaxKind.{SyntaxKind}
use Rattle.syntax_trees.specs.declared.cursor.SyntaxError.{SyntaxError}
use Rattle.syntax_parsers.specs.Fronts.{sign_front, pair_front, name_front, keyword_front, literal_front, group_front, tree_front, quoted, lifetime_front, segment_front, is_parens, is_brackets, is_braces, is_shown, is_reserved}
use Rattle.syntax_parsers.specs.Grammar.{Read, choose, required, whole}
use Rattle.syntax_parsers.specs.Spelling.{SignThen, PairThen, WordThen, NameThen, LifetimeThen, GroupThen}
use Rattle.syntax_parsers.proofs.Results.{ok_same, and_true}

abbrev pub some_of : {A : Type 0} → A → Option A
some_of x = Some x

pub some_same : {A : Type 0} → (x y : A) → some_of x ≡ some_of y → x ≡ y
some_same x y e = cc

pub cond_some : {A : Type 0} → (b : Bool) (o : Option A) (y : A) → cond b o None ≡ Some y → (b ≡ true) × (o ≡ Some y)
cond_some true o y e = (refl, e)
cond_some false o y e = absurd (cc)

pub if_some : {A : Type 0} → (b : Bool) (x y : A) → cond b (Some x) None ≡ Some y → (b ≡ true) × (x ≡ y)
if_some true x y e = (refl, cc)
if_some false x y e = absurd (cc)

pub choose_ok : {A B : Type 0} → (o : Option A) (f : A → Result B SyntaxError) (g : Result B SyntaxError) (y : B) → choose o f g ≡ Ok y → ((x : A) × (o ≡ Some x) × (f x ≡ Ok y)) ⊎ ((o ≡ None) × (g ≡ Ok y))
choose_ok None f g y e = inr (refl, e)
choose_ok (Some x) f g y e = inl (x, refl, e)

pub required_ok : {A : Type 0} → (o : Option A) (k : SyntaxKind) (at : Span) (ts : List Tok) (y : A) → required o k at ts ≡ Ok y → o ≡ Some y
required_ok None k at ts y e = absurd (cc)
required_ok (Some x) k at ts y e = cc

pub whole_ok : {A : Type 0} → (at : Span) (r : Read A) (y : A) → whole at r ≡ Ok y → r ≡ Ok (y, [])
whole_ok at (Err s) y e = absurd (cc)
whole_ok at (Ok (x, [])) y e = ap (λ z. Ok (z, [])) (ok_same x y e)
whole_ok at (Ok (x, t ∷ ts)) y e = absurd (cc)

mark_at : (c d : ℕ) (j : Spacing) (s : Span) → nat_eq c d ≡ true → mark d j s ≡ mark c j s
mark_at c d j s h = ap (λ n. mark n j s) (sym (eqb-true c d h))

pub sign_stands : (c : ℕ) (ts rest : List Tok) → sign_front c ts ≡ Some rest → SignThen c ts rest
sign_stands c [] rest e = absurd (cc)
sign_stands c (word x s ∷ ts) rest e = absurd (cc)
sign_stands c (mark d j s ∷ ts) rest e =
    let h = if_some (nat_eq c d) ts rest e in
    (j, s, ap (λ t. t ∷ ts) (mark_at c d j s h.0) ∙ ap (λ z. mark c j s ∷ z) h.1)
sign_stands c (fixed l s ∷ ts) rest e = absurd (cc)
sign_stands c (group d us s ∷ ts) rest e = absurd (cc)

joint_at : (c d : ℕ) (j : Spacing) (s : Span) → (nat_eq c d && is_joint j) ≡ true → mark d j s ≡ mark c Joint s
joint_at c d Joint s h = mark_at c d Joint s (and_true (nat_eq c d) true h).0
joint_at c d Alone s h = let e : false ≡ true = (and_true (nat_eq c d) false h).1 in absurd (cc)

pub pair_stands : (c d : ℕ) (ts rest : List Tok) → pair_front c d ts ≡ Some rest → PairThen c d ts rest
pair_stands c d [] rest e = absurd (cc)
pair_stands c d (word x s ∷ ts) rest e = absurd (cc)
pair_stands c d (mark k j s ∷ ts) rest e =
    let h = cond_some (nat_eq c k && is_joint j) (sign_front d ts) rest e in
    let n = sign_stands d ts rest h.1 in
    (s, n.0, n.1, ap (λ t. t ∷ ts) (joint_at c k j s h.0) ∙ ap (λ z. mark c Joint s ∷ z) n.2)
pair_stands c d (fixed l s ∷ ts) rest e = absurd (cc)
pair_stands c d (group k us s ∷ ts) rest e = absurd (cc)

pub keyword_stands : (k : List ℕ) (ts rest : List Tok) → keyword_front k ts ≡ Some rest → WordThen k ts rest
keyword_stands k [] rest e = absurd (cc)
keyword_stands k (word x s ∷ ts) rest e =
    let h = if_some (bytes_eq x k) ts rest e in
    (s, ap (λ z. word z s ∷ ts) ((bytes_eq-Decides x k).0 h.0) ∙ ap (λ z. word k s ∷ z) h.1)
keyword_stands k (mark d j s ∷ ts) rest e = absurd (cc)
keyword_stands k (fixed l s ∷ ts) rest e = absurd (cc)
keyword_stands k (group d us s ∷ ts) rest e = absurd (cc)

pub name_stands : (ts : List Tok) (y : Name × List Tok) → name_front ts ≡ Some y → NameThen y.0 ts y.1
name_stands [] y e = absurd (cc)
name_stands (word x s ∷ ts) y e = let h = some_same (record { text = x; span = s }, ts) y e in ap (λ (p : Name × List Tok). word p.0.text p.0.span ∷ p.1) h
name_stands (mark d j s ∷ ts) y e = absurd (cc)
name_stands (fixed l s ∷ ts) y e = absurd (cc)
name_stands (group d us s ∷ ts) y e = absurd (cc)

pub segment_stands : (ts : List Tok) (y : Name × List Tok) → segment_front ts ≡ Some y → NameThen y.0 ts y.1 × (is_reserved y.0.text ≡ false)
segment_stands [] y e = absurd (cc)
segment_stands (word x s ∷ ts) y e = reserved (is_reserved x) refl e
  where
    reserved : (b : Bool) → is_reserved x ≡ b → cond b None (Some (record { text = x; span = s }, ts)) ≡ Some y → NameThen y.0 (word x s ∷ ts) y.1 × (is_reserved y.0.text ≡ false)
    reserved true h e = absurd (cc)
    reserved false h e =
        let k = some_same (record { text = x; span = s }, ts) y e in
        (ap (λ (p : Name × List Tok). word p.0.text p.0.span ∷ p.1) k, ap (λ (p : Name × List Tok). is_reserved p.0.text) (sym k) ∙ h)
segment_stands (mark d j s ∷ ts) y e = absurd (cc)
segment_stands (fixed l s ∷ ts) y e = absurd (cc)
segment_stands (group d us s ∷ ts) y e = absurd (cc)

pub literal_stands : (ts : List Tok) (y : Fixed × Span × List Tok) → literal_front ts ≡ Some y → ts ≡ fixed y.0 y.1 ∷ y.2
literal_stands [] y e = absurd (cc)
literal_stands (word x s ∷ ts) y e = absurd (cc)
literal_stands (mark d j s ∷ ts) y e = absurd (cc)
literal_stands (fixed l s ∷ ts) y e = let h = some_same (l, s, ts) y e in ap (λ (p : Fixed × Span × List Tok). fixed p.0 p.1 ∷ p.2) h
literal_stands (group d us s ∷ ts) y e = absurd (cc)

quoted_stands : (s : Span) (o : Option (Name × List Tok)) (y : LifetimeD × List Tok) → quoted s o ≡ Some y → (o ≡ Some (y.0.name, y.1)) × (s ≡ y.0.span)
quoted_stands s None y e = absurd (cc)
quoted_stands s (Some (x, ts)) y e =
    let h = some_same (record { name = x; span = s }, ts) y e in
    (ap (λ (p : LifetimeD × List Tok). Some (p.0.name, p.1)) h, ap (λ (p : LifetimeD × List Tok). p.0.span) h)

pub lifetime_stands : (ts : List Tok) (y : LifetimeD × List Tok) → lifetime_front ts ≡ Some y → LifetimeThen y.0 ts y.1
lifetime_stands [] y e = absurd (cc)
lifetime_stands (word x s ∷ ts) y e = absurd (cc)
lifetime_stands (mark d j s ∷ ts) y e =
    let h = cond_some (nat_eq 39 d && is_joint j) (quoted s (name_front ts)) y e in
    let q = quoted_stands s (name_front ts) y h.1 in
    ap (λ t. t ∷ ts) (joint_at 39 d j s h.0) ∙ ap (λ z. mark 39 Joint z ∷ ts) q.1 ∙ ap (λ z. mark 39 Joint y.0.span ∷ z) (name_stands ts (y.0.name, y.1) q.0)
lifetime_stands (fixed l s ∷ ts) y e = absurd (cc)
lifetime_stands (group d us s ∷ ts) y e = absurd (cc)

-- a group: its delimiter, and what it holds
abbrev pub GroupStands : (Delimiter → Bool) → List Tok → List Tok × Span × List Tok → Type 0
GroupStands p ts y = (d : Delimiter) × (us : Toks) × (p d ≡ true) × (list_of us ≡ y.0) × GroupThen d us ts y.2

pub group_stands : (p : Delimiter → Bool) (ts : List Tok) (y : List Tok × Span × List Tok) → group_front p ts ≡ Some y → GroupStands p ts y
group_stands p [] y e = absurd (cc)
group_stands p (word x s ∷ ts) y e = absurd (cc)
group_stands p (mark c j s ∷ ts) y e = absurd (cc)
group_stands p (fixed l s ∷ ts) y e = absurd (cc)
group_stands p (group d us s ∷ ts) y e =
    let h = if_some (p d) (list_of us, s, ts) y e in
    (d, us, h.0, ap (λ (q : List Tok × Span × List Tok). q.0) h.1, (s, ap (λ (q : List Tok × Span × List Tok). group d us s ∷ q.2) h.1))

parens_is : (d : Delimiter) → is_parens d ≡ true → d ≡ Parenthesis
parens_is Parenthesis e = refl
parens_is Bracket e = absurd (cc)
parens_is Brace e = absurd (cc)
parens_is Bare e = absurd (cc)

brackets_is : (d : Delimiter) → is_brackets d ≡ true → d ≡ Bracket
brackets_is Parenthesis e = absurd (cc)
brackets_is Bracket e = refl
brackets_is Brace e = absurd (cc)
brackets_is Bare e = absurd (cc)

braces_is : (d : Delimiter) → is_braces d ≡ true → d ≡ Brace
braces_is Parenthesis e = absurd (cc)
braces_is Bracket e = absurd (cc)
braces_is Brace e = refl
braces_is Bare e = absurd (cc)

abbrev pub Held : Delimiter → List Tok → List Tok × Span × List Tok → Type 0
Held d ts y = (us : Toks) × (list_of us ≡ y.0) × GroupThen d us ts y.2

held_as : (d : Delimiter) (p : Delimiter → Bool) → ((e : Delimiter) → p e ≡ true → e ≡ d) → (ts : List Tok) (y : List Tok × Span × List Tok) → group_front p ts ≡ Some y → Held d ts y
held_as d p is ts y e =
    let h = group_stands p ts y e in
    (h.1, h.3, (h.4.0, h.4.1 ∙ ap (λ z. group z h.1 h.4.0 ∷ y.2) (is h.0 h.2)))

pub parens_stand : (ts : List Tok) (y : List Tok × Span × List Tok) → group_front is_parens ts ≡ Some y → Held Parenthesis ts y
parens_stand = held_as Parenthesis is_parens parens_is

pub brackets_stand : (ts : List Tok) (y : List Tok × Span × List Tok) → group_front is_brackets ts ≡ Some y → Held Bracket ts y
brackets_stand = held_as Bracket is_brackets brackets_is

pub braces_stand : (ts : List Tok) (y : List Tok × Span × List Tok) → group_front is_braces ts ≡ Some y → Held Brace ts y
braces_stand = held_as Brace is_braces braces_is

pub tree_stands : (ts : List Tok) (y : Tok × List Tok) → tree_front ts ≡ Some y → (d : Delimiter) × (us : Toks) × (s : Span) × (y.0 ≡ group d us s) × (is_shown d ≡ true) × (ts ≡ y.0 ∷ y.1)
tree_stands [] y e = absurd (cc)
tree_stands (word x s ∷ ts) y e = absurd (cc)
tree_stands (mark c j s ∷ ts) y e = absurd (cc)
tree_stands (fixed l s ∷ ts) y e = absurd (cc)
tree_stands (group d us s ∷ ts) y e =
    let h = if_some (is_shown d) (group d us s, ts) y e in
    (d, us, s, ap (λ (q : Tok × List Tok). q.0) (sym h.1), h.0, ap (λ (q : Tok × List Tok). q.0 ∷ q.1) h.1)

pub sign_then_next : (c : ℕ) (ts rest : List Tok) → sign_front c ts ≡ Some rest → sign_next c ts ≡ true
sign_then_next c [] rest e = absurd (cc)
sign_then_next c (t ∷ ts) rest e = (if_some (is_sign c t) ts rest e).0
