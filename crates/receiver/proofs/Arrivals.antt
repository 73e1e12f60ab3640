-- RULES 14: a frame that arrives in pieces, whatever they are: any number of calls, by the contract of `receive` alone.
-- Assumes nothing.
use Rattle.std.proofs.Common.{rules}
use mathlib.Core.Path.{◌≡◌, refl, sym, ap, subst, subst⁻¹, ◌∙◌}
use mathlib.Core.Logic.{◌≢◌, ◌↔◌}
use mathlib.Core.Bool.{Bool, true, false, true≢false}
use mathlib.Core.List.{List, [], ◌∷◌, ◌++◌, append-nil}
use Prim.Native.Nat.{ℕ, ◌+◌, ◌*◌, ◌≤◌, ◌<◌}
use native.Mathlib.Nat.{add-zero, mul-le-mul}
use native.Mathlib.Omega.{arith}
use borrow.Author.Tests.{eq-eqb, ne_eqb}
use lib.Dec.{eqb}
use lib.ListN.{length, drop, length-append}
use lib.Seq.{drop-length}
use Rattle.rules.specs.Codes.{small_code}
use Rattle.rules.specs.Bits.{row_bytes}
use Rattle.rules.specs.Numbers.{pick, outside, frame_bytes, Exit}
use Rattle.rules.proofs.Laws.NumberLaws.{range_test}
use Rattle.text.specs.Laid.{laid}
use Rattle.text.proofs.LaidLaws.{laid_none, laid-length, laid_laid}
use Rattle.receiver.specs.declared.state.State.{State}
use Rattle.receiver.specs.Pieces.{Told, fresh_of, taken, receive}
use Rattle.receiver.specs.Calls.{Receives}
use Rattle.receiver.proofs.RefusalLaws.{refusal_0, receive_taken}
use Rattle.receiver.proofs.ReceiveRule.{ReceiveRule, receiving}

-- ---- The statement

-- a call: its piece, what was told, and what the lent buffer had then
pub record Call : Type 0 where
  pub piece : List ℕ
  pub said : Told
  pub frame : List ℕ

-- calls one after the other, each with the state that the one before returned, in the same buffer, to which nobody else writes; the last
-- state, and what the buffer has then, stand at the end. (n and the buffer's length stay, so where one call is taken only 14 refuses another.)
abbrev pub Calls : State → List ℕ → List Call → State → List ℕ → Type 0
Calls s frame [] end left = (s ≡ end) × (frame ≡ left)
Calls s frame (c ∷ later) end left = Receives s c.piece frame c.said c.frame × Calls c.said.state c.frame later end left

-- their pieces, one behind the other
abbrev pub pieces_of : List Call → List ℕ
pieces_of [] = []
pieces_of (c ∷ later) = c.piece ++ pieces_of later

-- their pieces, one by one
abbrev pub each_piece : List Call → List (List ℕ)
each_piece [] = []
each_piece (c ∷ later) = c.piece ∷ each_piece later

-- those that were not refused
abbrev pub taken_of : List Call → List Call
taken_of [] = []
taken_of (c ∷ later) = pick (eqb c.said.number 0) (c ∷ taken_of later) (taken_of later)

-- each is taken, and says that more is wanted exactly while bytes are missing of a frame of n rows; b have come before
abbrev pub EachTaken : ℕ → ℕ → List Call → Type 0
EachTaken n b [] = Unit {0}
EachTaken n b (c ∷ later) =
    (c.said.number ≡ 0) × ((c.said.more ≡ true) ↔ (b + length c.piece < frame_bytes n)) × EachTaken n (b + length c.piece) later

-- what the last one said; before the first more is wanted
abbrev pub last_more : Bool → List Call → Bool
last_more more [] = more
last_more more (c ∷ later) = last_more c.said.more later

-- a frame of n rows is cut into the pieces of these calls, the first of which has a fresh state; the lent buffer may have held anything
pub record Cut (n : ℕ) (sent lent : List ℕ) (calls : List Call) (end : State) (left : List ℕ) : Type 0 where
  pub from : 18 ≤ n
  pub up_to : n ≤ 256
  pub room : length lent ≡ frame_bytes n
  pub whole : length sent ≡ frame_bytes n
  pub in_turn : Calls (fresh_of n) lent calls end left
  pub pieces : pieces_of calls ≡ sent

-- how such calls end
pub record Ends (n : ℕ) (sent : List ℕ) (calls : List Call) (end : State) (left : List ℕ) : Type 0 where
  -- no piece is refused, and more is wanted after each exactly while bytes are missing; after the last no more is
  pub each : EachTaken n 0 calls
  pub done : last_more true calls ≡ false
  -- the buffer has the frame, and the state all its bytes
  pub buffer : left ≡ sent
  pub state : end ≡ record { n = n; bytes = frame_bytes n }
  -- the frame in one piece ends so too, in whatever buffer
  pub one_piece :
      (lent : List ℕ) → length lent ≡ frame_bytes n → (r : Told) (exit : List ℕ) → Receives (fresh_of n) sent lent r exit
      → (r.number ≡ 0) × (r.state ≡ end) × (r.more ≡ last_more true calls) × (exit ≡ left)

pub record Arrivals : Type 0 where
  -- there are such calls, whatever the pieces
  pub some_calls :
      (s : State) (frame : List ℕ) (pieces : List (List ℕ))
      → (calls : List Call) × (end : State) × (left : List ℕ) × Calls s frame calls end left × (each_piece calls ≡ pieces)
  pub cutting :
      (n : ℕ) (sent lent : List ℕ) (calls : List Call) (end : State) (left : List ℕ) → Cut n sent lent calls end left
      → Ends n sent calls end left
  -- while the frame is not whole, what has come stands in front, and all behind it is as it was
  pub so_far :
      (n : ℕ) (lent : List ℕ) (calls : List Call) (end : State) (left : List ℕ) → 18 ≤ n → n ≤ 256 → length lent ≡ frame_bytes n
      → Calls (fresh_of n) lent calls end left → length (pieces_of calls) ≤ frame_bytes n
      → EachTaken n 0 calls × (end ≡ record { n = n; bytes = length (pieces_of calls) })
      × (left ≡ pieces_of calls ++ drop (length (pieces_of calls)) lent)
  -- `taken_of` leaves out each refused call, and no other
  pub keeps_taken : (c : Call) (later : List Call) → c.said.number ≡ 0 → taken_of (c ∷ later) ≡ c ∷ taken_of later
  pub drops_refused : (c : Call) (later : List Call) → c.said.number ≢ 0 → taken_of (c ∷ later) ≡ taken_of later
  -- a refused piece changes nothing, whatever the state: the calls without the refused ones are calls one after the other too
  pub without_refused :
      (s : State) (frame : List ℕ) (calls : List Call) (end : State) (left : List ℕ) → Calls s frame calls end left
      → Calls s frame (taken_of calls) end left
  -- so the pieces of a frame, with refused ones between them, end as they do without
  pub refused_between :
      (n : ℕ) (sent lent : List ℕ) (calls : List Call) (end : State) (left : List ℕ) → 18 ≤ n → n ≤ 256
      → length lent ≡ frame_bytes n → length sent ≡ frame_bytes n → Calls (fresh_of n) lent calls end left → pieces_of (taken_of calls) ≡ sent
      → Ends n sent (taken_of calls) end left

-- ---- One call

-- what is said of a call, by its contract
pub call_rule :
    (s : State) (piece frame : List ℕ) (r : Told) (exit : List ℕ) → Receives s piece frame r exit
    → ReceiveRule small_code s piece frame r exit
call_rule s piece frame r exit c =
    subst⁻¹ (λ (e : Exit Told). ReceiveRule small_code s piece frame e.said e.output) c ((receiving small_code).keeps s piece frame)

-- ---- Calls one after the other

-- what calls come to of which no piece runs past the frame
record Arrived (s : State) (frame : List ℕ) (calls : List Call) (end : State) (left : List ℕ) : Type 0 where
  each : EachTaken s.n s.bytes calls
  state : end ≡ record { n = s.n; bytes = s.bytes + length (pieces_of calls) }
  buffer : left ≡ laid frame s.bytes (pieces_of calls)

arrived :
    (calls : List Call) (s : State) (frame : List ℕ) (end : State) (left : List ℕ) → outside small_code s.n ≡ false
    → length frame ≡ frame_bytes s.n → s.bytes + length (pieces_of calls) ≤ frame_bytes s.n → Calls s frame calls end left
    → Arrived s frame calls end left
arrived [] s frame end left o long room (e, f) =
    record {
      each = tt;
      state = sym e ∙ ap (λ (b : ℕ). record { n = s.n; bytes = b }) (sym (add-zero s.bytes));
      buffer = sym f ∙ sym (laid_none frame s.bytes);
    }
arrived (c ∷ later) s frame end left o long room (t, rest) =
    let l = length-append c.piece (pieces_of later) in
    let fits : s.bytes + length c.piece ≤ frame_bytes s.n = omega (arith, l, room) in
    let next : State = record { n = s.n; bytes = s.bytes + length c.piece } in
    let e : ◌≡◌ {A = Exit Told} (record { said = c.said; output = c.frame }) (taken s c.piece frame) =
    t ∙ receive_taken small_code s c.piece frame (refusal_0 small_code s (length c.piece) (length frame) o long fits) in
    let inside : s.bytes + length c.piece ≤ length frame = omega (arith, long, fits) in
    let k =
    arrived later next (laid frame s.bytes c.piece) end left o (laid-length frame s.bytes c.piece inside ∙ long)
    (omega (arith, l, room)) (subst (λ (x : Exit Told). Calls x.said.state x.output later end left) e rest) in
    let z : c.said.number ≡ 0 = ap (λ (x : Exit Told). x.said.number) e in
    let sum : s.bytes + length (pieces_of (c ∷ later)) ≡ next.bytes + length (pieces_of later) = omega (arith, l) in
    record {
      each = (z, (call_rule s c.piece frame c.said c.frame t).wanted z, k.each);
      state = rw sum k.state;
      buffer = k.buffer ∙ laid_laid frame s.bytes c.piece (pieces_of later) inside;
    }

-- each call as the definition has it
made :
    (pieces : List (List ℕ)) (s : State) (frame : List ℕ)
    → (calls : List Call) × (end : State) × (left : List ℕ) × Calls s frame calls end left × (each_piece calls ≡ pieces)
made [] s frame = ([], s, frame, (refl, refl), refl)
made (piece ∷ pieces) s frame =
    let e : Exit Told = receive small_code s piece frame in
    let k = made pieces e.said.state e.output in (
      record { piece = piece; said = e.said; frame = e.output } ∷ k.0,
      k.1,
      k.2,
      (refl, k.3),
      ap (λ (l : List (List ℕ)). piece ∷ l) k.4,
    )

-- what the last call says of more
last_says :
    (n b : ℕ) (more : Bool) (calls : List Call) → (more ≡ true) ↔ (b < frame_bytes n) → EachTaken n b calls
    → (last_more more calls ≡ true) ↔ (b + length (pieces_of calls) < frame_bytes n)
last_says n b more [] m e = (λ h. omega (arith, m.0 h), λ h. m.1 (omega (arith, h)))
last_says n b more (c ∷ later) m (z, says, rest) =
    let l = length-append c.piece (pieces_of later) in
    let k = last_says n (b + length c.piece) c.said.more later says rest in
    (λ h. omega (arith, k.0 h, l), λ h. k.1 (omega (arith, h, l)))

-- a call that is refused leaves state and buffer
left_out :
    (calls : List Call) (s : State) (frame : List ℕ) (end : State) (left : List ℕ) → Calls s frame calls end left
    → Calls s frame (taken_of calls) end left
left_out [] s frame end left c = c
left_out (c ∷ later) s frame end left (t, rest) =
    go (eqb c.said.number 0) refl (left_out later c.said.state c.frame end left rest)
  where
    go :
        (b : Bool) → eqb c.said.number 0 ≡ b → Calls c.said.state c.frame (taken_of later) end left
        → Calls s frame (pick b (c ∷ taken_of later) (taken_of later)) end left
    go true e k = (t, k)
    go false e k =
        let r = (call_rule s c.piece frame c.said c.frame t).refused (λ z. true≢false (sym (eq-eqb c.said.number 0 z) ∙ e)) in
        subst (λ (f : List ℕ). Calls s f (taken_of later) end left) r.2
        (subst (λ (u : State). Calls u c.frame (taken_of later) end left) r.0 k)

-- ---- A frame

-- what is laid at the start
laid_front : (s t : List ℕ) → laid s 0 t ≡ t ++ drop (length t) s
unfolding laid
laid_front s t = search rules

-- and takes the whole
laid_whole : (s t : List ℕ) → length t ≡ length s → laid s 0 t ≡ t
laid_whole s t h = laid_front s t ∙ rw (h, drop-length s) (append-nil t)

pub frame_some : (n : ℕ) → 18 ≤ n → 0 < frame_bytes n
frame_some n h = let s : 1 * 1 ≤ n * row_bytes n = mul-le-mul {n₁ = 1} {m₁ = 1} (omega (arith, h)) (omega (arith, h)) in omega (arith, s)

-- from a fresh state
fresh_calls :
    (n : ℕ) (lent : List ℕ) (calls : List Call) (end : State) (left : List ℕ) → 18 ≤ n → n ≤ 256 → length lent ≡ frame_bytes n
    → Calls (fresh_of n) lent calls end left → length (pieces_of calls) ≤ frame_bytes n → Arrived (fresh_of n) lent calls end left
fresh_calls n lent calls end left from up_to room c h =
    arrived calls (fresh_of n) lent end left ((range_test 18 256 n).1 (from, up_to)) room (omega (arith, h)) c

module _
    (n : ℕ) (sent lent : List ℕ) (calls : List Call) (end : State) (left : List ℕ) (c : Cut n sent lent calls end left) where
  long : length (pieces_of calls) ≡ frame_bytes n
  long = ap length c.pieces ∙ c.whole

  all : Arrived (fresh_of n) lent calls end left
  all = fresh_calls n lent calls end left c.from c.up_to c.room c.in_turn (omega (arith, long))

  whole_buffer : left ≡ sent
  whole_buffer = all.buffer ∙ ap (laid lent 0) c.pieces ∙ laid_whole lent sent (c.whole ∙ sym c.room)

  whole_state : end ≡ record { n = n; bytes = frame_bytes n }
  whole_state = let e : 0 + length (pieces_of calls) ≡ frame_bytes n = omega (arith, long) in rw e at all.state

  no_more : last_more true calls ≡ false
  no_more = go (last_more true calls) (last_says n 0 true calls (λ h. frame_some n c.from, λ h. refl) all.each)
    where
      go : (b : Bool) → (b ≡ true) ↔ (0 + length (pieces_of calls) < frame_bytes n) → b ≡ false
      go b t = search (rules, long)

-- the frame as one piece is a cutting too
one_cut :
    (n : ℕ) (sent lent : List ℕ) (r : Told) (exit : List ℕ) → 18 ≤ n → n ≤ 256 → length lent ≡ frame_bytes n
    → length sent ≡ frame_bytes n → Receives (fresh_of n) sent lent r exit
    → Cut n sent lent (record { piece = sent; said = r; frame = exit } ∷ []) r.state exit
one_cut n sent lent r exit from up_to room whole c =
    record { from = from; up_to = up_to; room = room; whole = whole; in_turn = (c, (refl, refl)); pieces = append-nil sent }

ends :
    (n : ℕ) (sent lent : List ℕ) (calls : List Call) (end : State) (left : List ℕ) → Cut n sent lent calls end left
    → Ends n sent calls end left
ends n sent lent calls end left c = record {
  each = (all n sent lent calls end left c).each;
  done = no_more n sent lent calls end left c;
  buffer = whole_buffer n sent lent calls end left c;
  state = whole_state n sent lent calls end left c;
  one_piece = λ lent' room r exit k.
      let d = one_cut n sent lent' r exit c.from c.up_to room c.whole k in
      let one : List Call = record { piece = sent; said = r; frame = exit } ∷ [] in (
        (all n sent lent' one r.state exit d).each.0,
        whole_state n sent lent' one r.state exit d ∙ sym (whole_state n sent lent calls end left c),
        no_more n sent lent' one r.state exit d ∙ sym (no_more n sent lent calls end left c),
        whole_buffer n sent lent' one r.state exit d ∙ sym (whole_buffer n sent lent calls end left c),
      );
}

pub arrivals : Arrivals
arrivals = record {
  some_calls = λ s frame pieces. made pieces s frame;
  cutting = ends;
  so_far = λ n lent calls end left from up_to room c h.
      let k = fresh_calls n lent calls end left from up_to room c h in
      let e : 0 + length (pieces_of calls) ≡ length (pieces_of calls) = omega arith in (
        k.each,
        rw e at k.state,
        k.buffer ∙ laid_front lent (pieces_of calls),
      );
  keeps_taken = λ c later z. rw (eq-eqb c.said.number 0 z);
  drops_refused = λ c later z. rw (ne_eqb c.said.number 0 z);
  without_refused = λ s frame calls end left. left_out calls s frame end left;
  refused_between = λ n sent lent calls end left from up_to room whole c same.
      ends n sent lent (taken_of calls) end left
      (record {
        from = from;
        up_to = up_to;
        room = room;
        whole = whole;
        in_turn = left_out calls (fresh_of n) lent end left c;
        pieces = same;
      });
}
