-- All that is claimed, one line for each theorem: what docs/PROMISES.md names as a claim is a line here, and what is a line here is proved (in
-- proofs/Claims). A theorem that were taken out, or that said less, would leave this file unproved. Assumes nothing.
use Rattle.std.specs.Prelude.{List, ◌≡◌, ℕ, ◌<◌, Some}
use Rattle.numbers.specs.Answers.{Answer, number_of, answer_of}
use Rattle.model.specs.Model.{Model}
use Rattle.demands.specs.Demand1.{Demand1}
use Rattle.demands.specs.Demand2.{Demand2}
use Rattle.demands.specs.Demand3.{Demand3}
use Rattle.demands.specs.ShorterSheet.{ShorterSheet}
use Rattle.demands.specs.TwoMoves.{TwoMoves}
use Rattle.demands.specs.EffectiveRoles.{EffectiveRoles}
use Rattle.demands.specs.Conditions.{Conditions}
use Rattle.demands.specs.Effects.{Effects}
use Rattle.demands.specs.Reviews.{QuestionsDemand}
use Rattle.demands.specs.PolicyFile.{Faithful}
use Rattle.demands.specs.Room.{NeverShort}
use Rattle.filebytes.specs.FileForm.{FileForm}
use Rattle.fileanswers.specs.Loading.{Loading}
use Rattle.fileanswers.specs.Saving.{SavesAsThePaperSays}
use Rattle.filetables.specs.PolicyBytes.{PolicyBytes}
use Rattle.transcripts.specs.Desk.{Desk}
use Rattle.transcripts.specs.LineForm.{LineForms}
use Rattle.transcripts.specs.Program.{Program}
use Rattle.transcripts.specs.ScriptLines.{ScriptLines}
use Rattle.transcripts.specs.Story.{Story}
use Rattle.transcripts.specs.Leaver.{Leaver}
use Rattle.transcripts.specs.Student.{Student}
use Rattle.wordsheet.specs.WordSheet.{WordSheet}
use Rattle.edges.specs.Edges.{Edges}
use Rattle.edges.specs.FullTables.{FullTables}
use Rattle.edges.specs.LongestChain.{LongestChain}
use Rattle.edges.specs.MostLooked.{MostLooked}
use Rattle.edges.specs.LongScripts.{LongScripts}
use Rattle.benchsheet.specs.BenchSheet.{Bench}
use Rattle.misreadings.specs.Readings.{examples, answered, expected, InheritedGrant, WrongRules}
use Rattle.misreadings.specs.ShutOut.{ShutOut, ReviewersShutOut}
use Rattle.misreadings.specs.Deleting.{DeletingShutOut}
use Rattle.misreadings.specs.DynamicRule.{DynamicShutOut}
use Rattle.misreadings.specs.HowFar.{HowFar}
use Rattle.clibrary.specs.Calls.{LongestAnswer}
use Rattle.unique.specs.Promises as promises
use Rattle.unique.specs.Handed.{Owned}
use Rattle.unique.specs.OwnCalls.{OwnCalls}
use Rattle.unique.specs.Buffers.{Buffers}
use Rattle.unique.specs.Frame.{Frame}
use Rattle.unique.specs.AnyState.{AnyState}

-- "For each, prove that any two outcomes meeting it are equal": every public function of each crate.
pub record OneOutcome : Type 2 where
  pub roleset : promises.Roleset
  pub numbers : promises.Numbers
  pub hierarchy : promises.Hierarchy
  pub state : promises.State
  pub walking : promises.Walking
  pub separation : promises.Separation
  pub sweeps : promises.Sweeps
  pub lists : promises.Lists
  pub users : promises.Users
  pub roles : promises.Roles
  pub assigning : promises.Assigning
  pub granting : promises.Granting
  pub inheriting : promises.Inheriting
  pub sets : promises.Sets
  pub sessions : promises.Sessions
  pub checking : promises.Checking
  pub reviews : promises.Reviews
  pub engine : promises.Engine
  pub text : promises.Text
  pub policywrite : promises.Policywrite
  pub policyread : promises.Policyread
  pub policycheck : promises.Policycheck
  pub policyfile : promises.Policyfile
  pub decimal : promises.Decimal
  pub words : promises.Words
  pub textlines : promises.Textlines
  pub reading : promises.Reading
  pub meaning : promises.Meaning
  pub script : promises.Script
  pub program : promises.Program
  pub clibrary : promises.Clibrary

-- The answer sheet: "a definition provides this paper's number .. for each case".
pub record AnswerSheet : Type 0 where
  -- two answers with one number are one answer,
  pub one_to_one : (a b : Answer) → number_of a ≡ number_of b → a ≡ b
  -- every number is one of 0 to 16,
  pub below : (a : Answer) → number_of a < 17
  -- an answer's number finds it,
  pub found : (a : Answer) → answer_of (number_of a) ≡ Some a
  -- and an answer that a number finds has this number.
  pub back : (n : ℕ) (a : Answer) → answer_of n ≡ Some a → number_of a ≡ n

pub record Claims : Type 2 where
  -- ---- the three demands, over the model
  pub answer_sheet : AnswerSheet
  pub demand1 : Demand1
  pub demand2 : Demand2
  pub conditions : Conditions
  pub effects : Effects
  pub questions : QuestionsDemand
  pub demand3 : Demand3
  pub shorter_sheet : ShorterSheet
  pub two_moves : TwoMoves
  pub effective_roles : (m : Model) (list : List ℕ) (s x : ℕ) → EffectiveRoles m list s x
  -- ---- the policy file
  pub faithful : Faithful
  pub file_form : FileForm
  pub loading : Loading
  pub saving : SavesAsThePaperSays
  pub policy_bytes : PolicyBytes
  -- ---- the script
  pub line_forms : LineForms
  pub script_lines : ScriptLines
  pub never_short : NeverShort
  pub program : Program
  pub desk : Desk
  pub word_sheet : WordSheet
  pub edges : Edges
  pub full_tables : FullTables
  pub longest_chain : LongestChain
  pub most_looked : MostLooked
  pub long_scripts : LongScripts
  pub story : Story
  pub leaver : Leaver
  pub student : Student
  -- ---- the bench sheet, and what is shut out
  pub bench_sheet : Bench
  pub readings : answered examples ≡ expected examples
  pub inherited_grant : InheritedGrant
  pub wrong_rules : WrongRules
  pub shut_out : ShutOut
  pub reviewers_shut_out : ReviewersShutOut
  pub deleting_shut_out : DeletingShutOut
  pub dynamic_shut_out : DynamicShutOut
  pub how_far : HowFar
  -- ---- the code's own calls, its own states, its buffers, and every number of its state
  pub own_calls : OwnCalls
  pub longest_answer : LongestAnswer
  pub owned : Owned
  pub buffers : Buffers
  pub frame : Frame
  pub any_state : AnyState
  pub one_outcome : OneOutcome
