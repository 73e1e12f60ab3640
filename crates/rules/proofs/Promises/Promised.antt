-- All that is promised of a code, at once: shown of every code that mends, and so of the small one.
-- Assumes nothing.
use Rattle.rules.specs.Codes.{Code, small_code}
use Rattle.rules.proofs.Laws.CodeLaws.{Mends}
use Rattle.rules.proofs.Promises.Codewords.{Codewords, codewords}
use Rattle.rules.proofs.Promises.Distance.{Distance, Widest, Shortened, distance, widest, shortened, mends_small}
use Rattle.rules.proofs.Promises.Answers.{Answers, answers}
use Rattle.rules.proofs.Promises.Encoding.{EncodingPromise, encoding}
use Rattle.rules.proofs.Promises.RoundTrip.{RoundTrips, round_trips}
use Rattle.rules.proofs.Promises.Passes.{PassesPromise, passes_promise}
use Rattle.rules.proofs.Promises.CountBounds.{CountsPromise, counts}
use Rattle.rules.proofs.Promises.Refusals.{Refuses, refuses}
use Rattle.rules.proofs.Promises.Blocks.{Blocks, blocks}
use Rattle.rules.proofs.Promises.Entries.{Entries, entries}
use Rattle.rules.proofs.Promises.Determined.{Determined, determined}
use Rattle.rules.proofs.Promises.RepairFrames.{RepairsFrames, CountsDamage, repairs_frames, counts_damage}
use Rattle.rules.proofs.Promises.Repair.{RepairPromise, repairs}
use Rattle.rules.proofs.Promises.Erased.{OnesPromise, ones_promise}

pub record Promised (code : Code) : Type 0 where
  pub codewords : Codewords code
  pub distance : Distance code
  pub widest : Widest code
  pub shortened : Shortened code
  pub answers : Answers code
  pub encoding : EncodingPromise code
  pub round_trips : RoundTrips code
  pub passes : PassesPromise code
  pub counts : CountsPromise code
  pub refuses : Refuses code
  pub blocks : Blocks code
  pub entries : Entries code
  pub ones : OnesPromise code
  pub determined : Determined code
  pub repairs_frames : RepairsFrames code
  pub counts_damage : CountsDamage code
  pub repairs : RepairPromise code

pub promised : (code : Code) (able : Mends code) → Promised code
promised code able = record {
  codewords = codewords code able.sound;
  distance = distance code able;
  widest = widest code;
  shortened = shortened code able.sound;
  answers = answers code able;
  encoding = encoding code able.sound;
  round_trips = round_trips code able.sound;
  passes = passes_promise code;
  counts = counts code able.sound;
  refuses = refuses code able.sound;
  blocks = blocks code able.sound;
  entries = entries code able;
  ones = ones_promise code able.sound;
  determined = determined code able;
  repairs_frames = repairs_frames code able;
  counts_damage = counts_damage code able;
  repairs = repairs code able;
}

pub promised_small : Promised small_code
promised_small = promised small_code mends_small
