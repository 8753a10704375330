-- Every public function's promise leaves one outcome: by the law of its promise's form (Unique). Assumes nothing.
use mathlib.Core.Path.{refl, sym, ◌∙◌}
use Rattle.unique.specs.Promises as promises
use Rattle.unique.proofs.Unique as laws

-- ---- written by tests/unique.py: a line for each public function

pub roleset : promises.Roleset
roleset =
    record {
      has = λ κs a x y e f vx vy p q. p ∙ sym q;
      with = λ κs a x y e f vx vy p q. laws.made_one p q;
      without = λ κs a x y e f vx vy p q. laws.made_one p q;
      union = λ κs a x y e f vx vy p q. laws.made_one p q;
      common = λ κs a x y e f vx vy p q. laws.made_one p q;
      minus = λ κs a x y e f vx vy p q. laws.made_one p q;
      subset = λ κs a x y e f vx vy p q. laws.answers_one p q;
      is_empty = λ κs a x y e f vx vy p q. laws.answers_one p q;
      count = λ κs a x y e f vx vy p q. p.0 ∙ sym q.0;
      lowest = λ κs a x y e f vx vy p q. laws.lowest-one a.0 x y p q;
      members = λ κs a x y e f vx vy p q. laws.ascending-one x y (p ∙ sym q);
      size = λ κs a x y e f vx vy p q. p.0 ∙ sym q.0;
      at_least = λ κs a x y e f vx vy p q. p ∙ sym q;
    }

pub numbers : promises.Numbers
numbers =
    record {
      number_of = λ κs a x y e f vx vy p q. p ∙ sym q;
      answer_of = λ κs a x y e f vx vy p q. p ∙ sym q;
      activation_beyond = λ κs a x y e f vx vy p q. p ∙ sym q;
      user_number = λ κs a x y e f vx vy p q. p ∙ sym q;
      user_is_beyond = λ κs a x y e f vx vy p q. p ∙ sym q;
      role_number = λ κs a x y e f vx vy p q. p ∙ sym q;
      role_is_beyond = λ κs a x y e f vx vy p q. p ∙ sym q;
      session_number = λ κs a x y e f vx vy p q. p ∙ sym q;
      session_is_beyond = λ κs a x y e f vx vy p q. p ∙ sym q;
      set_name_number = λ κs a x y e f vx vy p q. p ∙ sym q;
      set_name_is_beyond = λ κs a x y e f vx vy p q. p ∙ sym q;
    }

pub hierarchy : promises.Hierarchy
hierarchy =
    record {
      reach = λ T L g d κs a x y e f vx vy p q. laws.reaches-one p q;
      circular = λ κs a x y e f vx vy p q. laws.tells-circle-one p q;
      turned = λ κs a x y e f vx vy p q. laws.arrays 64 x y _ vx.1.1.0.1 vy.1.1.0.1 p q;
      at_or_above = λ κs a x y e f vx vy p q. laws.reaches-up-one p q;
      array_u6464_below = λ κs a x y e f vx vy p q. p ∙ sym q;
    }

pub state : promises.State
state =
    record {
      permission_beyond = λ κs a x y e f vx vy p q. p ∙ sym q;
      juniors = λ κs a x y e f p q. laws.table-one p q;
      assigned = λ κs a x y e f p q. laws.table-one p q;
      active = λ κs a x y e f p q. laws.table-one p q;
      holders = λ κs a x y e f p q. laws.table-one p q;
      juniors_table = λ κs a x y e f vx vy p q. laws.table-one p q;
      assigned_table = λ κs a x y e f vx vy p q. laws.table-one p q;
      sets_from = λ κs a x y e f vx vy p q. p ∙ sym q;
      has_user = λ κs a x y e f vx vy p q. p ∙ sym q;
      roles = λ κs a x y e f vx vy p q. p ∙ sym q;
      has_role = λ κs a x y e f vx vy p q. p ∙ sym q;
      directly_below = λ κs a x y e f vx vy p q. p ∙ sym q;
      assigned_to = λ κs a x y e f vx vy p q. p ∙ sym q;
      holders_of = λ κs a x y e f vx vy p q. p ∙ sym q;
      set_named = λ κs a x y e f vx vy p q. p ∙ sym q;
      session_at = λ κs a x y e f vx vy p q. p ∙ sym q;
      assignment_count = λ κs a x y e f vx vy p q. p ∙ sym q;
      grant_count = λ κs a x y e f vx vy p q. p ∙ sym q;
      line_count = λ κs a x y e f vx vy p q. p ∙ sym q;
      start = λ κs a x y e f sx sy p q. (refl, laws.states sx sy p q);
      put_all = λ κs a x y e f sx sy p q. (refl, laws.states sx sy p q);
      put_user = λ κs a x y e f sx sy p q. (refl, laws.states sx sy p q);
      put_roles = λ κs a x y e f sx sy p q. (refl, laws.states sx sy p q);
      put_juniors = λ κs a x y e f sx sy p q. (refl, laws.states sx sy p q);
      put_assigned = λ κs a x y e f sx sy p q. (refl, laws.states sx sy p q);
      put_holders = λ κs a x y e f sx sy p q. (refl, laws.states sx sy p q);
      put_lines = λ κs a x y e f sx sy p q. (refl, laws.states sx sy p q);
      put_assignments = λ κs a x y e f sx sy p q. (refl, laws.states sx sy p q);
      put_set = λ κs a x y e f sx sy p q. (refl, laws.states sx sy p q);
      put_members = λ κs a x y e f sx sy p q. (refl, laws.states sx sy p q);
      clear_set = λ κs a x y e f sx sy p q. (refl, laws.states sx sy p q);
      open_session = λ κs a x y e f sx sy p q. (refl, laws.states sx sy p q);
      put_active = λ κs a x y e f sx sy p q. (refl, laws.states sx sy p q);
      close_session = λ κs a x y e f sx sy p q. (refl, laws.states sx sy p q);
      put_all_active = λ κs a x y e f sx sy p q. (refl, laws.states sx sy p q);
    }

pub walking : promises.Walking
walking =
    record {
      reach = λ κs a x y e f vx vy p q. laws.reaches-one p q;
    }

pub separation : promises.Separation
separation =
    record {
      breaks = λ κs a x y e f vx vy p q. p ∙ sym q;
      bad_cardinality = λ κs a x y e f vx vy p q. p ∙ sym q;
      breaks_some = λ κs a x y e f vx vy p q. p ∙ sym q;
    }

pub sweeps : promises.Sweeps
sweeps =
    record {
      ask_rule = λ κs a x y e f vx vy p q. p ∙ sym q;
      ask_set = λ κs a x y e f vx vy p q. p ∙ sym q;
      shed = λ κs a x y e f vx vy p q. laws.sheds-all-one p q;
      end_all = λ κs a x y e f sx sy p q. (refl, laws.states sx sy p q);
      has_open = λ κs a x y e f vx vy p q. p ∙ sym q;
      lowest_free = λ κs a x y e f vx vy p q. laws.free-one _ p q;
      strip = λ κs a x y e f vx vy p q. laws.strips-one p q;
    }

pub lists : promises.Lists
lists =
    record {
      read = λ κs a x y e f vx vy p q. laws.reads-one p q;
    }

pub users : promises.Users
users =
    record {
      user = λ κs a x y e f sx sy p q. laws.outcomes sx sy p q;
      end_all = λ κs a x y e f sx sy p q. laws.outcomes sx sy p q;
      nouser = λ κs a x y e f sx sy p q. laws.outcomes sx sy p q;
    }

pub roles : promises.Roles
roles =
    record {
      role = λ κs a x y e f sx sy p q. laws.outcomes sx sy p q;
      norole = λ κs a x y e f sx sy p q. laws.outcomes sx sy p q;
    }

pub assigning : promises.Assigning
assigning =
    record {
      assign = λ κs a x y e f sx sy p q. laws.outcomes sx sy p q;
      deassign = λ κs a x y e f sx sy p q. laws.outcomes sx sy p q;
    }

pub granting : promises.Granting
granting =
    record {
      grant = λ κs a x y e f sx sy p q. laws.outcomes sx sy p q;
      revoke = λ κs a x y e f sx sy p q. laws.outcomes sx sy p q;
    }

pub inheriting : promises.Inheriting
inheriting =
    record {
      inherit = λ κs a x y e f sx sy p q. laws.outcomes sx sy p q;
      disinherit = λ κs a x y e f sx sy p q. laws.outcomes sx sy p q;
    }

pub sets : promises.Sets
sets =
    record {
      make_set = λ κs a x y e f sx sy p q. laws.outcomes sx sy p q;
      drop_set = λ κs a x y e f sx sy p q. laws.outcomes sx sy p q;
      add_member = λ κs a x y e f sx sy p q. laws.outcomes sx sy p q;
      drop_member = λ κs a x y e f sx sy p q. laws.outcomes sx sy p q;
      set_cardinality = λ κs a x y e f sx sy p q. laws.outcomes sx sy p q;
    }

pub sessions : promises.Sessions
sessions =
    record {
      session = λ κs a x y e f sx sy p q. laws.told-opened-one sx sy p q;
      activate = λ κs a x y e f sx sy p q. laws.outcomes sx sy p q;
      drop = λ κs a x y e f sx sy p q. laws.outcomes sx sy p q;
      end = λ κs a x y e f sx sy p q. laws.outcomes sx sy p q;
    }

pub checking : promises.Checking
checking =
    record {
      owner = λ κs a x y e f vx vy p q. laws.told-owned-one _ p q;
      check = λ κs a x y e f vx vy p q. laws.told-checked-one _ p q;
    }

pub reviews : promises.Reviews
reviews =
    record {
      assigned_users = λ κs a x y e f vx vy p q. laws.reviewed-one p q;
      assigned_roles = λ κs a x y e f vx vy p q. laws.reviewed-one p q;
      auth_users = λ κs a x y e f vx vy p q. laws.reviewed-one p q;
      auth_roles = λ κs a x y e f vx vy p q. laws.reviewed-one p q;
      role_perms = λ κs a x y e f vx vy p q. laws.reviewed-one p q;
      user_perms = λ κs a x y e f vx vy p q. laws.reviewed-one p q;
      session_roles = λ κs a x y e f vx vy p q. laws.reviewed-one p q;
      session_perms = λ κs a x y e f vx vy p q. laws.reviewed-one p q;
      role_ops = λ κs a x y e f vx vy p q. laws.reviewed-one p q;
      user_ops = λ κs a x y e f vx vy p q. laws.reviewed-one p q;
      set_names = λ κs a x y e f vx vy p q. laws.reviewed-one p q;
      set_roles = λ κs a x y e f vx vy p q. laws.reviewed-one p q;
      set_count = λ κs a x y e f vx vy p q. laws.reviewed-one p q;
    }

pub engine : promises.Engine
engine =
    record {
      step = λ κs a x y e f sx sy p q. laws.told-stepped-one sx sy p q;
      ask = λ κs a x y e f vx vy p q. laws.reviewed-one p q;
    }

pub text : promises.Text
text =
    record {
      put = λ κs a x y e f vx vy p q. laws.put_one p q;
      put_text = λ κs a x y e f vx vy p q. laws.put_one p q;
      word_at = λ κs a x y e f vx vy p q. p ∙ sym q;
    }

pub policywrite : promises.Policywrite
policywrite =
    record {
      write = λ κs a x y e f vx vy p q. laws.wrote_one p q;
    }

pub policyread : promises.Policyread
policyread =
    record {
      gather = λ κs a x y e f sx sy p q. (refl, laws.states sx sy p q);
    }

pub policycheck : promises.Policycheck
policycheck =
    record {
      formed = λ κs a x y e f vx vy p q. laws.tells-one p q;
      broken = λ κs a x y e f vx vy p q. laws.numbers-one p q;
    }

pub policyfile : promises.Policyfile
policyfile =
    record {
      save = λ κs a x y e f vx vy p q. laws.saves-one p q;
      load = λ κs a x y e f sx sy p q. laws.loads-one sx sy p q;
    }

pub decimal : promises.Decimal
decimal =
    record {
      put_number = λ κs a x y e f vx vy p q. laws.put_one p q;
      put_numbers = λ κs a x y e f vx vy p q. laws.put_one p q;
      value = λ κs a x y e f vx vy p q. p ∙ sym q;
    }

pub words : promises.Words
words =
    record {
      number = λ κs a x y e f vx vy p q. p ∙ sym q;
      numbered = λ κs a x y e f vx vy p q. p ∙ sym q;
      which = λ κs a x y e f vx vy p q. p ∙ sym q;
      put_word = λ κs a x y e f vx vy p q. laws.put_one p q;
      before_list = λ κs a x y e f vx vy p q. p ∙ sym q;
      takes = λ κs a x y e f vx vy p q. p ∙ sym q;
    }

pub textlines : promises.Textlines
textlines =
    record {
      part_at = λ κs a x y e f p q. p ∙ sym q;
      past = λ κs a x y e f vx vy p q. p ∙ sym q;
      reader_next = λ κs a x y e f p q. λ i. ((p.0 ∙ sym q.0) i, record { src = (p.1.0 ∙ sym q.1.0) i; at = (p.1.1 ∙ sym q.1.1) i });
      tally_counted = λ κs a x y e f vx vy p q. p ∙ sym q;
      tally_bump = λ κs a x y e f vx vy p q. (refl, p ∙ sym q);
    }

pub reading : promises.Reading
reading =
    record {
      read_line = λ κs a x y e f vx vy p q. p ∙ sym q;
      numbers_as_slice = λ κs a x y e f p q. p ∙ sym q;
    }

pub meaning : promises.Meaning
meaning =
    record {
      meaning = λ κs a x y e f vx vy p q. p ∙ sym q;
    }

pub script : promises.Script
script =
    record {
      answer_text = λ κs a x y e f vx vy p q. laws.put_one p q;
      total_text = λ κs a x y e f vx vy p q. laws.put_one p q;
      answer_line = λ κs a x y e f sx sy p q. laws.answered-one sx sy p q;
      turn = λ κs a x y e f sx sy p q. laws.turns-one sx sy p q;
    }

pub program : promises.Program
program =
    record {
      at_first = λ κs a x y e f vx vy p q. p ∙ sym q;
      begin = λ κs a x y e f sx sy p q. laws.begins-one sx sy p q;
      next = λ κs a x y e f sx sy p q. laws.prints-one sx sy p q;
    }

pub clibrary : promises.Clibrary
clibrary =
    record {
      marruskil_start = λ κs a x y e f sx sy p q. (refl, laws.states sx sy p q);
      marruskil_obey = λ κs a x y e f sx sy p q. laws.obeys-one sx sy p q;
      marruskil_check = λ κs a x y e f vx vy p q. laws.checks-at-one p q;
      marruskil_load = λ κs a x y e f sx sy p q. laws.loaded-one sx sy p q;
      marruskil_save = λ κs a x y e f vx vy p q. laws.saves-at-one p q;
    }

-- ---- end of what tests/unique.py writes
