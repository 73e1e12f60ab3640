-- What C gets: the demands, of what encode, decode and read return and leave in what is lent. Decode's values are those that the header
-- reads out of its block.
-- Assumes nothing.
use mathlib.Core.Path.{◌≡◌, sym, ap, ◌∙◌}
use mathlib.Core.Logic.{◌≢◌, ◌↔◌}
use mathlib.Core.List.{List, [], ◌∷◌}
use Prim.Native.Nat.{ℕ, ◌≤◌, ◌<◌}
use lib.ListN.{length, get_or}
use Rattle.rules.specs.Codes.{small_code, data_bits}
use Rattle.rules.specs.Frames.{corner}
use Rattle.rules.specs.Bits.{frame_of, bytes_of}
use Rattle.rules.specs.Passes.{decoded}
use Rattle.rules.specs.Numbers.{most_allowed, data_bytes, frame_bytes, frame_for, Decoded, Figures, figures_of, decode_said, decode_output}
use Rattle.rules.specs.Block.{block, read_block}
use Rattle.rules.specs.Damage.{wrong_bits}
use Rattle.rules.proofs.Laws.ErasedLaws.{ones_square}
use Rattle.rules.proofs.Promises.Blocks.{Within}
use Rattle.rules.proofs.Promises.Refusals.{NumberTable}
use Rattle.rules.proofs.Promises.EntryRules.{EncodeRule, ReadRule, DecodeRule}
use Rattle.rules.proofs.Promises.Repair.{NotErased}
use Rattle.rules.proofs.Promises.Promised.{promised_small}
use Rattle.std.specs.Prelude.{Result}
use Rattle.word.specs.declared.refusal.Refusal.{Refusal}
use Rattle.frame.specs.declared.decode.Report.{Report}
use Rattle.frame.specs.Calls.{Encodes, Reads, Decodes}
use Rattle.frame.specs.Said.{figures}
use Rattle.frame.proofs.SaidLaws.{back, said_back}
use Rattle.frame.proofs.Demands.{TwoSpoiled, writes, demand₁, demand₂}
use Rattle.host.specs.Calls.{HostDecodes}

-- a call of decode that is lent a block of 20 bytes, whatever these are
abbrev pub WithBlock : ℕ → ℕ → List ℕ → List ℕ → ℕ → List ℕ → List ℕ → Type 0
WithBlock n allowance received output r exit left =
    (lent : List ℕ) × (length lent ≡ 20) × HostDecodes n allowance received output lent r exit left

pub record HostDemands : Type 0 where
  -- demand 1: which numbers can occur, and what stands in the output for each
  pub encode_answers :
      (n : ℕ) (message output : List ℕ) (r : ℕ) (exit : List ℕ) → Encodes n message output r exit
      → NumberTable (1 ∷ 2 ∷ 3 ∷ 5 ∷ 10 ∷ []) [] r
      (bytes_of n (frame_for small_code n message)) message output exit
  pub read_answers :
      (n : ℕ) (frame output : List ℕ) (r : ℕ) (exit : List ℕ) → Reads n frame output r exit
      → NumberTable (1 ∷ 2 ∷ 3 ∷ 10 ∷ 6 ∷ []) [] r
      (bytes_of (data_bits small_code n) (corner (data_bits small_code n) (frame_of n frame))) frame output exit
  pub decode_answers :
      (n allowance : ℕ) (received output : List ℕ) (r : ℕ) (exit left : List ℕ) → WithBlock n allowance received output r exit left
      → NumberTable (1 ∷ 2 ∷ 3 ∷ 4 ∷ 10 ∷ []) (7 ∷ 8 ∷ []) r
      (bytes_of n (decoded small_code n allowance (frame_of n received)).last) received output exit
  -- with a block of another length it gives 11, whatever else is wrong, and nothing is written
  pub other_block :
      (n allowance : ℕ) (received output lent : List ℕ) (r : ℕ) (exit left : List ℕ) → HostDecodes n allowance received output lent r exit left
      → length lent ≢ 20 → (r ≡ 11) × (exit ≡ output) × (left ≡ lent)
  -- else the number returned is the first of the block's values, and each is within its bound
  pub values :
      (n allowance : ℕ) (received output : List ℕ) (r : ℕ) (exit left : List ℕ) → WithBlock n allowance received output r exit left
      → (r ≡ (read_block left).number) × Within n (read_block left)
  -- demand 2: each keeps its entry point's rule, which names each number beside its reason. Decode's block is written whole, on a
  -- refusal too
  pub encode :
      (n : ℕ) (message output : List ℕ) (r : ℕ) (exit : List ℕ) → Encodes n message output r exit
      → EncodeRule small_code n message output r exit
  pub read :
      (n : ℕ) (frame output : List ℕ) (r : ℕ) (exit : List ℕ) → Reads n frame output r exit → ReadRule small_code n frame output r exit
  pub decode :
      (n allowance : ℕ) (received output : List ℕ) (r : ℕ) (exit left : List ℕ) → WithBlock n allowance received output r exit left
      → (d : Decoded) × (left ≡ block (figures_of d)) × (read_block left ≡ figures_of d) × DecodeRule small_code n allowance received output d exit
  -- encode gives 10 for one message alone, 239 rows of ones at n = 256
  pub one_message :
      (n : ℕ) (message output : List ℕ) (r : ℕ) (exit : List ℕ) → Encodes n message output r exit → ((p : ℕ) → get_or message p 0 < 256)
      → (r ≡ 10) ↔ ((n ≡ 256) × (message ≡ bytes_of 239 (ones_square 239)) × (length output ≡ frame_bytes 256))
  -- what was encoded is read back
  pub back :
      (n : ℕ) (message output frame : List ℕ) → Encodes n message output 0 frame → ((p : ℕ) → get_or message p 0 < 256)
      → (lent : List ℕ) (r : ℕ) (exit : List ℕ) → length lent ≡ data_bytes small_code n → Reads n frame lent r exit
      → (r ≡ 0) × (exit ≡ message)
  -- a call of decode is one of the library's, and its values are read out of the block
  pub library :
      (n allowance : ℕ) (received output : List ℕ) (r : ℕ) (exit left : List ℕ) → WithBlock n allowance received output r exit left
      → (q : Result Report Refusal) × Decodes n allowance received output q exit × (read_block left ≡ figures q)
  -- demand 3
  pub comes_back :
      (n : ℕ) (message blank written : List ℕ) → Encodes n message blank 0 written
      → (received : List ℕ) → TwoSpoiled n written received → NotErased n received
      → (allowance : ℕ) (output : List ℕ) (r : ℕ) (exit left : List ℕ) → 2 ≤ allowance → allowance ≤ most_allowed
      → length output ≡ frame_bytes n → WithBlock n allowance received output r exit left
      → (r ≡ 0) × ((read_block left).passes ≤ 2) × (exit ≡ written)
  -- whatever the allowance, number 0 means the written bytes, and the count is the number of wrong bits
  pub counts :
      (n : ℕ) (message blank written : List ℕ) → Encodes n message blank 0 written
      → (received : List ℕ) → TwoSpoiled n written received
      → (allowance : ℕ) (output : List ℕ) (r : ℕ) (exit left : List ℕ) → WithBlock n allowance received output r exit left
      → r ≡ 0 → (exit ≡ written) × ((read_block left).bits ≡ wrong_bits n written received)
  -- two calls alike return and leave the same, whatever the block's length; of encode and read the library's theorem says so
  pub determined :
      (n allowance : ℕ) (received output lent : List ℕ) (r r' : ℕ) (exit exit' left left' : List ℕ)
      → HostDecodes n allowance received output lent r exit left → HostDecodes n allowance received output lent r' exit' left'
      → (r ≡ r') × (exit ≡ exit') × (left ≡ left')

-- ---- The proof

-- what a call with a block of 20 bytes returns and leaves, one by one, and what is read out of the block
record Got (n allowance : ℕ) (received output : List ℕ) (r : ℕ) (exit left : List ℕ) : Type 0 where
  number : r ≡ (figures_of (decode_said small_code n allowance received output)).number
  frame : exit ≡ decode_output small_code n allowance received output
  bytes : left ≡ block (figures_of (decode_said small_code n allowance received output))
  read : read_block left ≡ figures_of (decode_said small_code n allowance received output)

got :
    (n allowance : ℕ) (received output : List ℕ) (r : ℕ) (exit left : List ℕ) → WithBlock n allowance received output r exit left
    → Got n allowance received output r exit left
got n allowance received output r exit left c =
    let k = promised_small.blocks in
    let e = c.2 ∙ k.of_length n allowance received output c.0 c.1 in
    let f : Figures = figures_of (decode_said small_code n allowance received output) in
    record {
      number = ap (λ x. x.returned) e;
      frame = ap (λ x. x.frame) e;
      bytes = ap (λ x. x.block) e;
      read = ap (λ x. read_block x.block) e ∙ k.read_back f (k.fits n allowance received output);
    }

pub host_demands : HostDemands
host_demands = record {
  encode_answers = demand₁.encode;
  read_answers = demand₁.read;
  decode_answers = λ n allowance received output r exit left c.
      let g = got n allowance received output r exit left c in
      rw (g.number, g.frame) (promised_small.refuses.decode n allowance received output);
  other_block = λ n allowance received output lent r exit left c h.
      let e = c ∙ promised_small.blocks.other_length n allowance received output lent h in
      (ap (λ x. x.returned) e, ap (λ x. x.frame) e, ap (λ x. x.block) e);
  values = λ n allowance received output r exit left c.
      let g = got n allowance received output r exit left c in (
        g.number ∙ ap (λ f. f.number) (sym g.read),
        rw g.read (promised_small.blocks.within n allowance received output),
      );
  encode = demand₂.encode;
  read = demand₂.read;
  decode = λ n allowance received output r exit left c.
      let g = got n allowance received output r exit left c in (
        decode_said small_code n allowance received output,
        g.bytes,
        g.read,
        rw g.frame (promised_small.entries.decodes n allowance received output),
      );
  one_message = demand₂.one_message;
  back = demand₂.back;
  library = λ n allowance received output r exit left c.
      let g = got n allowance received output r exit left c in (
        back (decode_said small_code n allowance received output),
        (said_back n allowance received output, g.frame),
        g.read ∙ sym (ap figures_of (said_back n allowance received output)),
      );
  comes_back = λ n message blank written w received s seen allowance output r exit left lo hi h c.
      let g = got n allowance received output r exit left c in
      let k = promised_small.repairs.back n allowance written received output (writes n message blank written w) s seen lo hi h in
      (g.number ∙ k.zero, rw g.read k.few, g.frame ∙ k.bytes);
  counts = λ n message blank written w received s allowance output r exit left c z.
      let g = got n allowance received output r exit left c in
      let k = promised_small.repairs.counts n allowance written received output (writes n message blank written w) s (sym g.number ∙ z) in
      (g.frame ∙ k.0, ap (λ f. f.bits) g.read ∙ k.1);
  determined = λ n allowance received output lent r r' exit exit' left left' c c'.
      let e = c ∙ sym c' in (ap (λ x. x.returned) e, ap (λ x. x.frame) e, ap (λ x. x.block) e);
}
