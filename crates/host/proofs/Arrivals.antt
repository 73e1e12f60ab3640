-- What C gets of a frame in pieces: calls one after the other, each with the number that the one before returned, and decode after the last.
-- Assumes nothing.
use Rattle.std.proofs.Common.{rules}
use mathlib.Core.Path.{◌≡◌, refl, sym, ap, ap₂, subst, ◌∙◌}
use mathlib.Core.Logic.{◌≢◌}
use mathlib.Core.Bool.{true, false, true≢false}
use mathlib.Core.List.{List, [], ◌∷◌}
use Prim.Native.Nat.{ℕ, ◌+◌, ◌*◌, ◌/◌, ◌%◌, ◌^◌, ◌≤◌, ◌<◌}
use native.Mathlib.Omega.{arith}
use borrow.Author.Tests.{eq-eqb}
use lib.ListN.{length}
use Rattle.rules.specs.Codes.{small_code}
use Rattle.rules.specs.Numbers.{most_allowed, frame_bytes, Exit}
use Rattle.rules.specs.Block.{read_block}
use Rattle.rules.proofs.Laws.SmallCode.{sound_small}
use Rattle.rules.proofs.Promises.Repair.{NotErased}
use Rattle.frame.specs.Calls.{Encodes}
use Rattle.frame.proofs.Demands.{TwoSpoiled}
use Rattle.receiver.specs.declared.state.State.{State}
use Rattle.receiver.specs.Pieces.{Told, fresh_of, receive}
use Rattle.receiver.specs.Packed.{state_in, said_in, packed, host_receive}
use Rattle.receiver.specs.Calls.{Receives}
use Rattle.receiver.proofs.ReceiveRule.{ReceiveRule}
use Rattle.receiver.proofs.Arrivals.{Call, Calls, EachTaken, last_more, pieces_of, taken_of, Cut, Ends, call_rule, arrivals, frame_some}
use Rattle.receiver.proofs.Packing.{packing}
use Rattle.host.specs.Calls.{HostReceives}
use Rattle.host.proofs.Demands.{WithBlock, host_demands}

-- ---- The statement

-- a call: its piece, the number returned, and what the lent buffer had then
pub record HostCall : Type 0 where
  pub piece : List ℕ
  pub returned : ℕ
  pub frame : List ℕ

-- calls one after the other, from a number; the last number, and what the buffer has then, stand at the end
abbrev pub HostCalls : ℕ → List ℕ → List HostCall → ℕ → List ℕ → Type 0
HostCalls x frame [] end left = (x ≡ end) × (frame ≡ left)
HostCalls x frame (c ∷ later) end left =
    HostReceives x c.piece frame c.returned c.frame × HostCalls c.returned c.frame later end left

-- what C reads out of each number
abbrev pub read : List HostCall → List Call
read [] = []
read (c ∷ later) = record { piece = c.piece; said = said_in c.returned; frame = c.frame } ∷ read later

-- a frame of n rows is cut into the pieces of these calls. The first has a number with n in bits 16 to 31 and no bytes so far
pub record HostCut (n : ℕ) (sent lent : List ℕ) (x : ℕ) (calls : List HostCall) (end : ℕ) (left : List ℕ) : Type 0 where
  pub from : 18 ≤ n
  pub up_to : n ≤ 256
  pub room : length lent ≡ frame_bytes n
  pub whole : length sent ≡ frame_bytes n
  pub number : x < 2 ^ 64
  pub fresh : state_in x ≡ fresh_of n
  pub in_turn : HostCalls x lent calls end left
  pub pieces : pieces_of (read calls) ≡ sent

-- how such calls end, and what decode makes of the buffer then
pub record HostEnds (n : ℕ) (sent : List ℕ) (calls : List HostCall) (end : ℕ) (left : List ℕ) : Type 0 where
  -- no piece is refused, and more is wanted after each exactly while bytes are missing
  pub each : EachTaken n 0 (read calls)
  pub buffer : left ≡ sent
  -- the last number is the same for every cutting: n, all bytes, number 0, no more
  pub number : end ≡ n * 2 ^ 16 + frame_bytes n * 2 ^ 32
  -- decode's answer is the one for the frame as it was sent
  pub decode :
      (allowance : ℕ) (output : List ℕ) (r : ℕ) (exit block : List ℕ) → WithBlock n allowance left output r exit block
      → WithBlock n allowance sent output r exit block
  -- demand 3: a written frame that was spoiled comes back
  pub comes_back :
      (message blank written : List ℕ) → Encodes n message blank 0 written → TwoSpoiled n written sent → NotErased n sent
      → (allowance : ℕ) (output : List ℕ) (r : ℕ) (exit block : List ℕ) → 2 ≤ allowance → allowance ≤ most_allowed
      → length output ≡ frame_bytes n → WithBlock n allowance left output r exit block
      → (r ≡ 0) × ((read_block block).passes ≤ 2) × (exit ≡ written)

pub record HostArrivals : Type 0 where
  -- one call, whatever number of 64 bits goes in: what C reads out of the one that is returned keeps the rule, and bits 9 to 15 are zero
  pub answers :
      (x : ℕ) (piece frame : List ℕ) (y : ℕ) (exit : List ℕ) → x < 2 ^ 64 → HostReceives x piece frame y exit
      → ReceiveRule small_code (state_in x) piece frame (said_in y) exit × (y < 2 ^ 64) × (y % 2 ^ 16 < 2 ^ 9)
  -- a refused piece leaves the buffer, and the number from bit 16 on
  pub refused :
      (x : ℕ) (piece frame : List ℕ) (y : ℕ) (exit : List ℕ) → x < 2 ^ 64 → HostReceives x piece frame y exit
      → (said_in y).number ≢ 0 → (y / 2 ^ 16 ≡ x / 2 ^ 16) × (exit ≡ frame)
  -- the lowest 16 bits are not looked at; two calls alike return and leave the same
  pub determined :
      (x x' : ℕ) (piece frame : List ℕ) (y y' : ℕ) (exit exit' : List ℕ) → x / 2 ^ 16 ≡ x' / 2 ^ 16
      → HostReceives x piece frame y exit → HostReceives x' piece frame y' exit' → (y ≡ y') × (exit ≡ exit')
  -- calls one after the other are calls of the library's
  pub library :
      (x : ℕ) (frame : List ℕ) (calls : List HostCall) (end : ℕ) (left : List ℕ) → x < 2 ^ 64
      → HostCalls x frame calls end left → Calls (state_in x) frame (read calls) (state_in end) left
  pub cutting :
      (n : ℕ) (sent lent : List ℕ) (x : ℕ) (calls : List HostCall) (end : ℕ) (left : List ℕ)
      → HostCut n sent lent x calls end left → HostEnds n sent calls end left
  -- with refused ones between them the pieces of a frame end the same: n and all bytes in the last number, and the frame in the buffer
  pub refused_between :
      (n : ℕ) (sent lent : List ℕ) (x : ℕ) (calls : List HostCall) (end : ℕ) (left : List ℕ) → 18 ≤ n → n ≤ 256
      → length lent ≡ frame_bytes n → length sent ≡ frame_bytes n → x < 2 ^ 64 → state_in x ≡ fresh_of n → HostCalls x lent calls end left
      → pieces_of (taken_of (read calls)) ≡ sent → Ends n sent (taken_of (read calls)) (state_in end) left

-- ---- One call

module _
    (x : ℕ) (piece frame : List ℕ) (y : ℕ) (exit : List ℕ) (h : x < 2 ^ 64) (c : HostReceives x piece frame y exit) where
  abbrev said : Told
  said = (receive small_code (state_in x) piece frame).said

  returned : y ≡ packed said
  unfolding host_receive
  returned = ap (λ (e : Exit ℕ). e.said) c

  left_there : exit ≡ (receive small_code (state_in x) piece frame).output
  unfolding host_receive
  left_there = ap (λ (e : Exit ℕ). e.output) c

  read_said : said_in y ≡ said
  read_said = ap said_in returned ∙ (packing small_code sound_small).read_back said ((packing small_code sound_small).fits x h piece frame)

  as_library : Receives (state_in x) piece frame (said_in y) exit
  as_library = ap₂ (λ (r : Told) (e : List ℕ). record { said = r; output = e }) read_said left_there

  narrow : (y < 2 ^ 64) × (y % 2 ^ 16 < 2 ^ 9)
  narrow =
      rw returned ((packing small_code sound_small).narrow said ((packing small_code sound_small).fits x h piece frame))

  kept : (said_in y).number ≢ 0 → (y / 2 ^ 16 ≡ x / 2 ^ 16) × (exit ≡ frame)
  kept z =
      let r = (call_rule (state_in x) piece frame (said_in y) exit as_library).refused z in
      let n : y / 2 ^ 16 % 2 ^ 16 ≡ x / 2 ^ 16 % 2 ^ 16 = ap (λ (s : State). s.n) r.0 in
      let b : y / 2 ^ 32 ≡ x / 2 ^ 32 = ap (λ (s : State). s.bytes) r.0 in
      (omega (arith, n, b), r.2)

-- the lowest 16 bits are not looked at
same :
    (x x' : ℕ) (piece frame : List ℕ) (y y' : ℕ) (exit exit' : List ℕ) → x / 2 ^ 16 ≡ x' / 2 ^ 16 → HostReceives x piece frame y exit
    → HostReceives x' piece frame y' exit' → (y ≡ y') × (exit ≡ exit')
unfolding host_receive
same x x' piece frame y y' exit exit' h c c' =
    let k = (packing small_code sound_small).low_bits x x' h in search (rules, k, c, c')

-- ---- Calls one after the other

library_calls :
    (calls : List HostCall) (x : ℕ) (frame : List ℕ) (end : ℕ) (left : List ℕ) → x < 2 ^ 64 → HostCalls x frame calls end left
    → Calls (state_in x) frame (read calls) (state_in end) left
library_calls [] x frame end left h (e, f) = (ap state_in e, f)
library_calls (c ∷ later) x frame end left h (t, rest) = (
  as_library x c.piece frame c.returned c.frame h t,
  library_calls later c.returned c.frame end left (narrow x c.piece frame c.returned c.frame h t).0 rest,
)

-- the last number is that of the last call
last_number :
    (calls : List HostCall) (c : HostCall) (n b x : ℕ) (frame : List ℕ) (end : ℕ) (left : List ℕ) → x < 2 ^ 64
    → HostCalls x frame (c ∷ calls) end left → EachTaken n b (read (c ∷ calls))
    → (end % 2 ^ 16 < 2 ^ 9) × ((said_in end).number ≡ 0) × ((said_in end).more ≡ last_more true (read (c ∷ calls)))
last_number [] c n b x frame end left h (t, (e, f)) (z, w, rest) =
    let k = narrow x c.piece frame c.returned c.frame h t in
    rw (sym e) (k.1, z, refl)
last_number (d ∷ calls) c n b x frame end left h (t, rest) (z, w, more) =
    last_number calls d n (b + length c.piece) c.returned c.frame end left
    (narrow x c.piece frame c.returned c.frame h t).0 rest more

-- a number by its parts
by_parts :
    (y n b : ℕ) → y % 2 ^ 16 < 2 ^ 9 → y % 2 ^ 8 ≡ 0 → y / 2 ^ 8 % 2 ≢ 1 → y / 2 ^ 16 % 2 ^ 16 ≡ n → y / 2 ^ 32 ≡ b
    → y ≡ n * 2 ^ 16 + b * 2 ^ 32
by_parts y n b u z m e f = omega (arith, u, z, m, e, f)

-- ---- A frame

module _
    (n : ℕ) (sent lent : List ℕ) (x : ℕ) (calls : List HostCall) (end : ℕ) (left : List ℕ) (c : HostCut n sent lent x calls end left) where
  -- for the library it is a cutting
  cut : Cut n sent lent (read calls) (state_in end) left
  cut = record {
    from = c.from;
    up_to = c.up_to;
    room = c.room;
    whole = c.whole;
    in_turn =
        subst (λ (s : State). Calls s lent (read calls) (state_in end) left) c.fresh
        (library_calls calls x lent end left c.number c.in_turn);
    pieces = c.pieces;
  }

  ends : Ends n sent (read calls) (state_in end) left
  ends = arrivals.cutting n sent lent (read calls) (state_in end) left cut

  whole_number : end ≡ n * 2 ^ 16 + frame_bytes n * 2 ^ 32
  whole_number = go calls c.in_turn c.pieces ends.each ends.done
    where
      go :
          (l : List HostCall) → HostCalls x lent l end left → pieces_of (read l) ≡ sent → EachTaken n 0 (read l)
          → last_more true (read l) ≡ false → end ≡ n * 2 ^ 16 + frame_bytes n * 2 ^ 32
      go [] k p each done =
          let e : 0 ≡ frame_bytes n = ap length p ∙ c.whole in absurd (omega (arith, e, frame_some n c.from))
      go (d ∷ l) k p each done =
          let t = last_number l d n 0 x lent end left c.number k each in
          by_parts end n (frame_bytes n) t.0 t.1 (λ one. true≢false (sym (eq-eqb (end / 2 ^ 8 % 2) 1 one) ∙ t.2 ∙ done))
          (ap (λ (s : State). s.n) ends.state) (ap (λ (s : State). s.bytes) ends.state)

  as_sent :
      (allowance : ℕ) (output : List ℕ) (r : ℕ) (exit block : List ℕ) → WithBlock n allowance left output r exit block
      → WithBlock n allowance sent output r exit block
  as_sent allowance output r exit block d = rw ends.buffer at d

  host_ends : HostEnds n sent calls end left
  host_ends = record {
    each = ends.each;
    buffer = ends.buffer;
    number = whole_number;
    decode = as_sent;
    comes_back = λ message blank written e s seen allowance output r exit block lo hi long d.
        host_demands.comes_back n message blank written e sent s seen allowance output r exit block lo hi long
        (as_sent allowance output r exit block d);
  }

pub host_arrivals : HostArrivals
host_arrivals = record {
  answers = λ x piece frame y exit h c. (
    call_rule (state_in x) piece frame (said_in y) exit (as_library x piece frame y exit h c),
    (narrow x piece frame y exit h c).0,
    (narrow x piece frame y exit h c).1,
  );
  refused = kept;
  determined = same;
  library = λ x frame calls end left. library_calls calls x frame end left;
  cutting = host_ends;
  refused_between = λ n sent lent x calls end left from up_to room whole h fresh c same.
      arrivals.refused_between n sent lent (read calls) (state_in end) left from up_to room whole
      (subst (λ (s : State). Calls s lent (read calls) (state_in end) left) fresh (library_calls calls x lent end left h c)) same;
}
