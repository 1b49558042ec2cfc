-- Where reading a pattern stops.
use Rattle.std.proofs.Common.{◌≡◌, ◌∙◌, sym, ap, subst, ℕ, zero, suc, ◌+◌, ◌≤◌, List, [], ◌∷◌, Bool, true, false, length, refl, arith, Option, Some, None, option_map, unwrap_or}
use Rattle.plain_patterns.specs.declared.state.Kind.{Kind}
use Rattle.plain_patterns.specs.declared.state.State.{State}
use Rattle.plain_patterns.specs.Plain.{Text, behind, piece}
use Rattle.plain_patterns.specs.Ends.{Step, after, look, state_after, stepped, unread, unread_looks, unread_pieces}
use Rattle.plain_patterns.proofs.Scanned.{found, none_written, step, step_of, written}

-- what is left from a place on, with a bound
abbrev pub IsUnread : Bool → Text → Text → State → Type 0
IsUnread mode whole t s = (n : ℕ) × (length t ≤ n) × (whole ≡ unread mode n t s)

abbrev rest : Bool → ℕ → Text → Option Step → Text
rest mode n t o = unwrap_or (option_map (λ q. unread mode n q.1 q.2) o) t

goes_on : (mode : Bool) (n c : ℕ) (t : Text) (s : State) → unread mode (suc n) (c ∷ t) s ≡ rest mode n (c ∷ t) (stepped (piece mode c t) s)
unfolding unread
goes_on mode n c t s = refl

stops_by : (mode : Bool) (n c : ℕ) (t : Text) (s : State) → stepped (piece mode c t) s ≡ None → length (c ∷ t) ≤ n → unread mode n (c ∷ t) s ≡ c ∷ t
stops_by mode zero c t s e le = absurd (omega arith)
stops_by mode (suc n) c t s e le = goes_on mode n c t s ∙ ap (rest mode n (c ∷ t)) e

stops : (mode : Bool) (whole x : Text) (c : ℕ) (t : Text) (s : State) → x ≡ c ∷ t → stepped (piece mode c t) s ≡ None → IsUnread mode whole x s → x ≡ whole
stops mode whole x c t s q e left =
    let l : IsUnread mode whole (c ∷ t) s = subst (λ y. IsUnread mode whole y s) q left in
    q ∙ sym (l.2 ∙ stops_by mode l.0 c t s e l.1)

-- where no piece stands
pub stops_before : (mode : Bool) (whole : Text) (out : List ℕ) (x : Text) (c : ℕ) (t : Text) (s : State) → x ≡ c ∷ t → None ≡ behind out (piece mode c t) → IsUnread mode whole x s → x ≡ whole
stops_before mode whole out x c t s q e left = stops mode whole x c t s q (ap (λ o. stepped o s) (none_written (piece mode c t) out e)) left

-- where a piece can't stand
pub stops_at : (mode : Bool) (whole : Text) (out new : List ℕ) (x : Text) (c : ℕ) (t : Text) (s : State) (k : Kind) (u : Text) → x ≡ c ∷ t → found k new u ≡ behind out (piece mode c t)
    → None ≡ state_after s k → IsUnread mode whole x s → x ≡ whole
stops_at mode whole out new x c t s k u q e r left = let w = written (piece mode c t) out new k u e in stops mode whole x c t s q (step_of _ k w.0 u s None w.1 r) left

next_by : (mode : Bool) (n : ℕ) (whole : Text) (c : ℕ) (t : Text) (s next : State) (w : List ℕ) (u : Text) → length (c ∷ t) ≤ n → whole ≡ unread mode n (c ∷ t) s → stepped (piece mode c t) s ≡ Some (step w u next)
    → length u ≤ length t → IsUnread mode whole u next
next_by mode zero whole c t s next w u le h e shorter = absurd (omega arith)
next_by mode (suc n) whole c t s next w u le h e shorter = (n, omega arith, h ∙ goes_on mode n c t s ∙ ap (rest mode n (c ∷ t)) e)

pub reads_on : (mode : Bool) (whole : Text) (out new : List ℕ) (x : Text) (c : ℕ) (t : Text) (s next : State) (k : Kind) (u : Text) → x ≡ c ∷ t → found k new u ≡ behind out (piece mode c t)
    → Some next ≡ state_after s k → length u ≤ length t → IsUnread mode whole x s → IsUnread mode whole u next
reads_on mode whole out new x c t s next k u q e r shorter left =
    let l : IsUnread mode whole (c ∷ t) s = subst (λ y. IsUnread mode whole y s) q left in
    let w = written (piece mode c t) out new k u e in
    next_by mode l.0 whole c t s next w.0 u l.1 l.2 (step_of _ k w.0 u s (Some next) w.1 r) shorter

-- where the text ends
pub read_whole : (mode : Bool) (whole t : Text) (s : State) → length t ≡ 0 → IsUnread mode whole t s → t ≡ whole
unfolding unread
read_whole mode whole [] s e left = sym left.2
read_whole mode whole (c ∷ t) s e left = absurd (omega arith)

-- what is left where lookaheads stand first, with a bound
abbrev pub IsUnreadBehind : Bool → Text → Text → Type 0
IsUnreadBehind mode whole t = (n : ℕ) × (length t ≤ n) × (whole ≡ unread_looks mode n t)

abbrev within : Bool → ℕ → Text → Text
within mode n stop = unwrap_or (option_map (λ r. unread_looks mode n r) (after 41 stop)) stop

abbrev behind_looks : Bool → ℕ → Text → Option (Bool × Text) → Text
behind_looks mode n t o = unwrap_or (option_map (λ l. within mode n (unread_pieces mode true l.1)) o) (unread_pieces mode false t)

look_goes_on : (mode : Bool) (n : ℕ) (t : Text) → unread_looks mode (suc n) t ≡ behind_looks mode n t (look false t)
unfolding unread_looks
look_goes_on mode n t = refl

within_by : (mode : Bool) (n : ℕ) (whole t u stop : Text) (b : Bool) (next : Option Text) → length t ≤ n → length u + 1 ≤ length t → Some (b, u) ≡ look false t → stop ≡ unread_pieces mode true u
    → next ≡ after 41 stop → whole ≡ unread_looks mode n t → (m : ℕ) × (suc m ≡ n) × (whole ≡ unwrap_or (option_map (λ r. unread_looks mode m r) next) stop)
within_by mode zero whole t u stop b next le shorter l e a h = absurd (omega arith)
within_by mode (suc n) whole t u stop b next le shorter l e a h = (
  n,
  refl,
  h ∙ look_goes_on mode n t ∙ ap (behind_looks mode n t) (sym l) ∙ ap (within mode n) (sym e) ∙ ap (λ o. unwrap_or (option_map (λ r. unread_looks mode n r) o) stop) (sym a),
)

-- where reading stops in a lookahead
pub stops_within : (mode : Bool) (whole t u stop : Text) (b : Bool) → length u + 1 ≤ length t → Some (b, u) ≡ look false t → stop ≡ unread_pieces mode true u → None ≡ after 41 stop
    → IsUnreadBehind mode whole t → stop ≡ whole
stops_within mode whole t u stop b shorter l e a left = let m = within_by mode left.0 whole t u stop b None left.1 shorter l e a left.2 in sym m.2

-- behind a lookahead
pub next_look : (mode : Bool) (whole t u stop r : Text) (b : Bool) → length u + 1 ≤ length t → Some (b, u) ≡ look false t → stop ≡ unread_pieces mode true u → Some r ≡ after 41 stop
    → length r ≤ length u → IsUnreadBehind mode whole t → IsUnreadBehind mode whole r
next_look mode whole t u stop r b shorter l e a less left =
    let m = within_by mode left.0 whole t u stop b (Some r) left.1 shorter l e a left.2 in (m.0, omega (arith, m.1, left.1), m.2)

no_look_by : (mode : Bool) (n : ℕ) (t : Text) → None ≡ look false t → unread_looks mode n t ≡ unread_pieces mode false t
unfolding unread_looks
no_look_by mode zero t e = refl
no_look_by mode (suc n) t e = ap (behind_looks mode n t) (sym e)

-- where no lookahead stands
pub no_look : (mode : Bool) (whole t stop : Text) → None ≡ look false t → stop ≡ unread_pieces mode false t → IsUnreadBehind mode whole t → stop ≡ whole
no_look mode whole t stop e s left = s ∙ sym (left.2 ∙ no_look_by mode left.0 t e)
