-- Each claim, by the theorem that shows it. Assumes nothing.
use Rattle.numbers.proofs.Answers.{number-one-to-one, answer_back, number-back, number-below}
use Rattle.demands.proofs.Demand1.{demand1}
use Rattle.demands.proofs.Demand2.{demand2}
use Rattle.demands.proofs.Demand3.{demand3}
use Rattle.demands.proofs.ShorterSheet.{shorter-sheet}
use Rattle.demands.proofs.TwoMoves.{two-moves}
use Rattle.demands.proofs.EffectiveRoles.{effective_roles}
use Rattle.demands.proofs.Conditions.{conditions}
use Rattle.demands.proofs.Effects.{effects}
use Rattle.demands.proofs.Reviews.{questions-demand}
use Rattle.demands.proofs.PolicyFile.{faithful}
use Rattle.demands.proofs.Room.{never-short}
use Rattle.filebytes.proofs.FileForm.{paper-form}
use Rattle.fileanswers.proofs.Loading.{loading}
use Rattle.fileanswers.proofs.Saving.{saves}
use Rattle.filetables.proofs.PolicyBytes.{policy-bytes}
use Rattle.transcripts.proofs.Desk.{desk}
use Rattle.transcripts.proofs.LineForm.{line-forms}
use Rattle.transcripts.proofs.Program.{program, story-holds, leaver-holds, student-holds}
use Rattle.transcripts.proofs.ScriptLines.{script-lines}
use Rattle.wordsheet.proofs.WordSheet.{word-sheet}
use Rattle.edges.proofs.Edges.{edges}
use Rattle.edges.proofs.FullTables.{full-tables}
use Rattle.edges.proofs.LongestChain.{longest-chain}
use Rattle.edges.proofs.MostLooked.{most-looked}
use Rattle.edges.proofs.LongScripts.{long-scripts}
use Rattle.benchsheet.proofs.BenchSheet.{bench-sheet}
use Rattle.misreadings.proofs.Bench.{inherited-grant}
use Rattle.misreadings.proofs.Readings.{readings, wrong-rules}
use Rattle.misreadings.proofs.ShutOut.{shut_out}
use Rattle.misreadings.proofs.Reviewers.{reviewers-shut-out}
use Rattle.misreadings.proofs.Deleting.{deleting-shut-out}
use Rattle.misreadings.proofs.DynamicRule.{dynamic-shut-out}
use Rattle.misreadings.proofs.HowFar.{how-far}
use Rattle.clibrary.proofs.Calling.{longest-answer}
use Rattle.unique.proofs.Promises as promises
use Rattle.unique.proofs.Handed.{owned}
use Rattle.unique.proofs.OwnCalls.{own-calls}
use Rattle.unique.proofs.Buffers.{buffers}
use Rattle.unique.proofs.Frame.{frame}
use Rattle.unique.proofs.AnyState.{any-state}
use Rattle.claims.specs.Claims.{Claims, OneOutcome, AnswerSheet}

one-outcome : OneOutcome
one-outcome =
    record {
      roleset = promises.roleset;
      numbers = promises.numbers;
      hierarchy = promises.hierarchy;
      state = promises.state;
      walking = promises.walking;
      separation = promises.separation;
      sweeps = promises.sweeps;
      lists = promises.lists;
      users = promises.users;
      roles = promises.roles;
      assigning = promises.assigning;
      granting = promises.granting;
      inheriting = promises.inheriting;
      sets = promises.sets;
      sessions = promises.sessions;
      checking = promises.checking;
      reviews = promises.reviews;
      engine = promises.engine;
      text = promises.text;
      policywrite = promises.policywrite;
      policyread = promises.policyread;
      policycheck = promises.policycheck;
      policyfile = promises.policyfile;
      decimal = promises.decimal;
      words = promises.words;
      textlines = promises.textlines;
      reading = promises.reading;
      meaning = promises.meaning;
      script = promises.script;
      program = promises.program;
      clibrary = promises.clibrary;
    }

pub claims : Claims
claims =
    record {
      answer_sheet = record { one_to_one = number-one-to-one; below = number-below; found = answer_back; back = number-back };
      demand1 = demand1;
      demand2 = demand2;
      conditions = conditions;
      effects = effects;
      questions = questions-demand;
      demand3 = demand3;
      shorter_sheet = shorter-sheet;
      two_moves = two-moves;
      effective_roles = effective_roles;
      faithful = faithful;
      file_form = paper-form;
      loading = loading;
      saving = saves;
      policy_bytes = policy-bytes;
      line_forms = line-forms;
      script_lines = script-lines;
      never_short = never-short;
      program = program;
      desk = desk;
      word_sheet = word-sheet;
      edges = edges;
      full_tables = full-tables;
      longest_chain = longest-chain;
      most_looked = most-looked;
      long_scripts = long-scripts;
      story = story-holds;
      leaver = leaver-holds;
      student = student-holds;
      bench_sheet = bench-sheet;
      readings = readings;
      inherited_grant = inherited-grant;
      wrong_rules = wrong-rules;
      shut_out = shut_out;
      reviewers_shut_out = reviewers-shut-out;
      deleting_shut_out = deleting-shut-out;
      dynamic_shut_out = dynamic-shut-out;
      how_far = how-far;
      own_calls = own-calls;
      longest_answer = longest-answer;
      owned = owned;
      buffers = buffers;
      frame = frame;
      any_state = any-state;
      one_outcome = one-outcome;
    }
