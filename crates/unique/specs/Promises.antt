-- Every public function's promise leaves one outcome. One line for each function, over its own contract; a record for each crate. Assumes nothing.
use Rattle.std.specs.Prelude.{List, ℕ}
use denote.Param.Laws.{Laws}
use mir.Syntax.{Dict}
use Rattle.std.specs.Borrow.{RattleType}
use Rattle.unique.specs.Unique.{Unique, UniqueLent, UniqueSeen, UniqueState, UniqueBoth}
-- ---- written by tests/unique.py: the crates
use Rattle.roleset.proofs as roleset
use Rattle.numbers.proofs as numbers
use Rattle.hierarchy.proofs as hierarchy
use Rattle.state.proofs as state
use Rattle.walking.proofs as walking
use Rattle.separation.proofs as separation
use Rattle.sweeps.proofs as sweeps
use Rattle.lists.proofs as lists
use Rattle.users.proofs as users
use Rattle.roles.proofs as roles
use Rattle.assigning.proofs as assigning
use Rattle.granting.proofs as granting
use Rattle.inheriting.proofs as inheriting
use Rattle.sets.proofs as sets
use Rattle.sessions.proofs as sessions
use Rattle.checking.proofs as checking
use Rattle.reviews.proofs as reviews
use Rattle.engine.proofs as engine
use Rattle.text.proofs as text
use Rattle.policywrite.proofs as policywrite
use Rattle.policyread.proofs as policyread
use Rattle.policycheck.proofs as policycheck
use Rattle.policyfile.proofs as policyfile
use Rattle.decimal.proofs as decimal
use Rattle.words.proofs as words
use Rattle.textlines.proofs as textlines
use Rattle.reading.proofs as reading
use Rattle.meaning.proofs as meaning
use Rattle.script.proofs as script
use Rattle.program.proofs as program
use Rattle.clibrary.proofs as clibrary
use Rattle.textlines.specs.declared.Reader.{Reader}
use Rattle.hierarchy.specs.declared.Lines as Lines_of_hierarchy

-- ---- end of what tests/unique.py writes
-- ---- written by tests/unique.py: a record for each crate, a line for each public function

pub record Roleset : Type 0 where
  pub has : Unique roleset.has.Kinds.ps roleset.has.Kinds.r roleset.has.Reads.Post
  pub with : Unique roleset.with.Kinds.ps roleset.with.Kinds.r roleset.with.Reads.Post
  pub without : Unique roleset.without.Kinds.ps roleset.without.Kinds.r roleset.without.Reads.Post
  pub union : Unique roleset.union.Kinds.ps roleset.union.Kinds.r roleset.union.Reads.Post
  pub common : Unique roleset.common.Kinds.ps roleset.common.Kinds.r roleset.common.Reads.Post
  pub minus : Unique roleset.minus.Kinds.ps roleset.minus.Kinds.r roleset.minus.Reads.Post
  pub subset : Unique roleset.subset.Kinds.ps roleset.subset.Kinds.r roleset.subset.Reads.Post
  pub is_empty : Unique roleset.is_empty.Kinds.ps roleset.is_empty.Kinds.r roleset.is_empty.Reads.Post
  pub count : Unique roleset.count.Kinds.ps roleset.count.Kinds.r roleset.count.Reads.Post
  pub lowest : Unique roleset.lowest.Kinds.ps roleset.lowest.Kinds.r roleset.lowest.Reads.Post
  pub members : Unique roleset.members.Kinds.ps roleset.members.Kinds.r roleset.members.Reads.Post
  pub size : Unique roleset.size.Kinds.ps roleset.size.Kinds.r roleset.size.Reads.Post
  pub at_least : Unique roleset.at_least.Kinds.ps roleset.at_least.Kinds.r roleset.at_least.Reads.Post

pub record Numbers : Type 0 where
  pub number_of : Unique numbers.number_of.Kinds.ps numbers.number_of.Kinds.r numbers.number_of.Reads.Post
  pub answer_of : Unique numbers.answer_of.Kinds.ps numbers.answer_of.Kinds.r numbers.answer_of.Reads.Post
  pub activation_beyond : Unique numbers.activation_beyond.Kinds.ps numbers.activation_beyond.Kinds.r numbers.activation_beyond.Reads.Post
  pub user_number : Unique numbers.UserNumbered.number.Kinds.ps numbers.UserNumbered.number.Kinds.r numbers.UserNumbered.number.Reads.Post
  pub user_is_beyond : Unique numbers.UserNumbered.is_beyond.Kinds.ps numbers.UserNumbered.is_beyond.Kinds.r numbers.UserNumbered.is_beyond.Reads.Post
  pub role_number : Unique numbers.RoleNumbered.number.Kinds.ps numbers.RoleNumbered.number.Kinds.r numbers.RoleNumbered.number.Reads.Post
  pub role_is_beyond : Unique numbers.RoleNumbered.is_beyond.Kinds.ps numbers.RoleNumbered.is_beyond.Kinds.r numbers.RoleNumbered.is_beyond.Reads.Post
  pub session_number : Unique numbers.SessionNumbered.number.Kinds.ps numbers.SessionNumbered.number.Kinds.r numbers.SessionNumbered.number.Reads.Post
  pub session_is_beyond : Unique numbers.SessionNumbered.is_beyond.Kinds.ps numbers.SessionNumbered.is_beyond.Kinds.r numbers.SessionNumbered.is_beyond.Reads.Post
  pub set_name_number : Unique numbers.SetNameNumbered.number.Kinds.ps numbers.SetNameNumbered.number.Kinds.r numbers.SetNameNumbered.number.Reads.Post
  pub set_name_is_beyond : Unique numbers.SetNameNumbered.is_beyond.Kinds.ps numbers.SetNameNumbered.is_beyond.Kinds.r numbers.SetNameNumbered.is_beyond.Reads.Post

pub record Hierarchy : Type 2 where
  pub reach : (T : RattleType) (L : Laws T) (g : Lines_of_hierarchy.Ghosts T.Denot) (d : Dict) → Unique (hierarchy.reach.Kinds.ps T L) (hierarchy.reach.Kinds.r T L) (hierarchy.reach.Reads.Post T L g d)
  pub circular : Unique hierarchy.circular.Kinds.ps hierarchy.circular.Kinds.r hierarchy.circular.Reads.Post
  pub turned : Unique hierarchy.turned.Kinds.ps hierarchy.turned.Kinds.r hierarchy.turned.Reads.Post
  pub at_or_above : Unique hierarchy.at_or_above.Kinds.ps hierarchy.at_or_above.Kinds.r hierarchy.at_or_above.Reads.Post
  pub array_u6464_below : Unique hierarchy.ArrayU6464Lines.below.Kinds.ps hierarchy.ArrayU6464Lines.below.Kinds.r hierarchy.ArrayU6464Lines.below.Reads.Post

pub record State : Type 0 where
  pub permission_beyond : Unique state.naming.permission_beyond.Kinds.ps state.naming.permission_beyond.Kinds.r state.naming.permission_beyond.Reads.Post
  pub juniors : UniqueSeen state.parts.juniors.Kinds.ps state.parts.juniors.Kinds.r state.parts.juniors.Reads.Post (λ κs x e. x.now)
  pub assigned : UniqueSeen state.parts.assigned.Kinds.ps state.parts.assigned.Kinds.r state.parts.assigned.Reads.Post (λ κs x e. x.now)
  pub active : UniqueSeen state.parts.active.Kinds.ps state.parts.active.Kinds.r state.parts.active.Reads.Post (λ κs x e. x.now)
  pub holders : UniqueSeen state.parts.holders.Kinds.ps state.parts.holders.Kinds.r state.parts.holders.Reads.Post (λ κs x e. x.now)
  pub juniors_table : Unique state.parts.juniors_table.Kinds.ps state.parts.juniors_table.Kinds.r state.parts.juniors_table.Reads.Post
  pub assigned_table : Unique state.parts.assigned_table.Kinds.ps state.parts.assigned_table.Kinds.r state.parts.assigned_table.Reads.Post
  pub sets_from : Unique state.parts.sets_from.Kinds.ps state.parts.sets_from.Kinds.r state.parts.sets_from.Reads.Post
  pub has_user : Unique state.reads.has_user.Kinds.ps state.reads.has_user.Kinds.r state.reads.has_user.Reads.Post
  pub roles : Unique state.reads.roles.Kinds.ps state.reads.roles.Kinds.r state.reads.roles.Reads.Post
  pub has_role : Unique state.reads.has_role.Kinds.ps state.reads.has_role.Kinds.r state.reads.has_role.Reads.Post
  pub directly_below : Unique state.reads.directly_below.Kinds.ps state.reads.directly_below.Kinds.r state.reads.directly_below.Reads.Post
  pub assigned_to : Unique state.reads.assigned_to.Kinds.ps state.reads.assigned_to.Kinds.r state.reads.assigned_to.Reads.Post
  pub holders_of : Unique state.reads.holders_of.Kinds.ps state.reads.holders_of.Kinds.r state.reads.holders_of.Reads.Post
  pub set_named : Unique state.reads.set_named.Kinds.ps state.reads.set_named.Kinds.r state.reads.set_named.Reads.Post
  pub session_at : Unique state.reads.session_at.Kinds.ps state.reads.session_at.Kinds.r state.reads.session_at.Reads.Post
  pub assignment_count : Unique state.reads.assignment_count.Kinds.ps state.reads.assignment_count.Kinds.r state.reads.assignment_count.Reads.Post
  pub grant_count : Unique state.reads.grant_count.Kinds.ps state.reads.grant_count.Kinds.r state.reads.grant_count.Reads.Post
  pub line_count : Unique state.reads.line_count.Kinds.ps state.reads.line_count.Kinds.r state.reads.line_count.Reads.Post
  pub start : UniqueState state.stores.start.Kinds.ps state.stores.start.Kinds.r state.stores.start.Reads.Post (λ κs e. e.0.now)
  pub put_all : UniqueState state.stores.put_all.Kinds.ps state.stores.put_all.Kinds.r state.stores.put_all.Reads.Post (λ κs e. e.0.now)
  pub put_user : UniqueState state.stores.put_user.Kinds.ps state.stores.put_user.Kinds.r state.stores.put_user.Reads.Post (λ κs e. e.0.now)
  pub put_roles : UniqueState state.stores.put_roles.Kinds.ps state.stores.put_roles.Kinds.r state.stores.put_roles.Reads.Post (λ κs e. e.0.now)
  pub put_juniors : UniqueState state.stores.put_juniors.Kinds.ps state.stores.put_juniors.Kinds.r state.stores.put_juniors.Reads.Post (λ κs e. e.0.now)
  pub put_assigned : UniqueState state.stores.put_assigned.Kinds.ps state.stores.put_assigned.Kinds.r state.stores.put_assigned.Reads.Post (λ κs e. e.0.now)
  pub put_holders : UniqueState state.stores.put_holders.Kinds.ps state.stores.put_holders.Kinds.r state.stores.put_holders.Reads.Post (λ κs e. e.0.now)
  pub put_lines : UniqueState state.stores.put_lines.Kinds.ps state.stores.put_lines.Kinds.r state.stores.put_lines.Reads.Post (λ κs e. e.0.now)
  pub put_assignments : UniqueState state.stores.put_assignments.Kinds.ps state.stores.put_assignments.Kinds.r state.stores.put_assignments.Reads.Post (λ κs e. e.0.now)
  pub put_set : UniqueState state.stores.put_set.Kinds.ps state.stores.put_set.Kinds.r state.stores.put_set.Reads.Post (λ κs e. e.0.now)
  pub put_members : UniqueState state.stores.put_members.Kinds.ps state.stores.put_members.Kinds.r state.stores.put_members.Reads.Post (λ κs e. e.0.now)
  pub clear_set : UniqueState state.stores.clear_set.Kinds.ps state.stores.clear_set.Kinds.r state.stores.clear_set.Reads.Post (λ κs e. e.0.now)
  pub open_session : UniqueState state.stores.open_session.Kinds.ps state.stores.open_session.Kinds.r state.stores.open_session.Reads.Post (λ κs e. e.0.now)
  pub put_active : UniqueState state.stores.put_active.Kinds.ps state.stores.put_active.Kinds.r state.stores.put_active.Reads.Post (λ κs e. e.0.now)
  pub close_session : UniqueState state.stores.close_session.Kinds.ps state.stores.close_session.Kinds.r state.stores.close_session.Reads.Post (λ κs e. e.0.now)
  pub put_all_active : UniqueState state.stores.put_all_active.Kinds.ps state.stores.put_all_active.Kinds.r state.stores.put_all_active.Reads.Post (λ κs e. e.0.now)

pub record Walking : Type 0 where
  pub reach : Unique walking.reach.Kinds.ps walking.reach.Kinds.r walking.reach.Reads.Post

pub record Separation : Type 0 where
  pub breaks : Unique separation.breaks.Kinds.ps separation.breaks.Kinds.r separation.breaks.Reads.Post
  pub bad_cardinality : Unique separation.bad_cardinality.Kinds.ps separation.bad_cardinality.Kinds.r separation.bad_cardinality.Reads.Post
  pub breaks_some : Unique separation.breaks_some.Kinds.ps separation.breaks_some.Kinds.r separation.breaks_some.Reads.Post

pub record Sweeps : Type 0 where
  pub ask_rule : Unique sweeps.ask_rule.Kinds.ps sweeps.ask_rule.Kinds.r sweeps.ask_rule.Reads.Post
  pub ask_set : Unique sweeps.ask_set.Kinds.ps sweeps.ask_set.Kinds.r sweeps.ask_set.Reads.Post
  pub shed : Unique sweeps.shed.Kinds.ps sweeps.shed.Kinds.r sweeps.shed.Reads.Post
  pub end_all : UniqueState sweeps.end_all.Kinds.ps sweeps.end_all.Kinds.r sweeps.end_all.Reads.Post (λ κs e. e.0.now)
  pub has_open : Unique sweeps.has_open.Kinds.ps sweeps.has_open.Kinds.r sweeps.has_open.Reads.Post
  pub lowest_free : Unique sweeps.lowest_free.Kinds.ps sweeps.lowest_free.Kinds.r sweeps.lowest_free.Reads.Post
  pub strip : UniqueLent sweeps.strip.Kinds.ps sweeps.strip.Kinds.r sweeps.strip.Reads.Post (λ κs e. e.0.now)

pub record Lists : Type 0 where
  pub read : Unique lists.read.Kinds.ps lists.read.Kinds.r lists.read.Reads.Post

pub record Users : Type 0 where
  pub user : UniqueState users.user.Kinds.ps users.user.Kinds.r users.user.Reads.Post (λ κs e. e.0.now)
  pub end_all : UniqueState users.end_all.Kinds.ps users.end_all.Kinds.r users.end_all.Reads.Post (λ κs e. e.0.now)
  pub nouser : UniqueState users.nouser.Kinds.ps users.nouser.Kinds.r users.nouser.Reads.Post (λ κs e. e.0.now)

pub record Roles : Type 0 where
  pub role : UniqueState roles.role.Kinds.ps roles.role.Kinds.r roles.role.Reads.Post (λ κs e. e.0.now)
  pub norole : UniqueState roles.norole.Kinds.ps roles.norole.Kinds.r roles.norole.Reads.Post (λ κs e. e.0.now)

pub record Assigning : Type 0 where
  pub assign : UniqueState assigning.assign.Kinds.ps assigning.assign.Kinds.r assigning.assign.Reads.Post (λ κs e. e.0.now)
  pub deassign : UniqueState assigning.deassign.Kinds.ps assigning.deassign.Kinds.r assigning.deassign.Reads.Post (λ κs e. e.0.now)

pub record Granting : Type 0 where
  pub grant : UniqueState granting.grant.Kinds.ps granting.grant.Kinds.r granting.grant.Reads.Post (λ κs e. e.0.now)
  pub revoke : UniqueState granting.revoke.Kinds.ps granting.revoke.Kinds.r granting.revoke.Reads.Post (λ κs e. e.0.now)

pub record Inheriting : Type 0 where
  pub inherit : UniqueState inheriting.inherit.Kinds.ps inheriting.inherit.Kinds.r inheriting.inherit.Reads.Post (λ κs e. e.0.now)
  pub disinherit : UniqueState inheriting.disinherit.Kinds.ps inheriting.disinherit.Kinds.r inheriting.disinherit.Reads.Post (λ κs e. e.0.now)

pub record Sets : Type 0 where
  pub make_set : UniqueState sets.make_set.Kinds.ps sets.make_set.Kinds.r sets.make_set.Reads.Post (λ κs e. e.0.now)
  pub drop_set : UniqueState sets.drop_set.Kinds.ps sets.drop_set.Kinds.r sets.drop_set.Reads.Post (λ κs e. e.0.now)
  pub add_member : UniqueState sets.add_member.Kinds.ps sets.add_member.Kinds.r sets.add_member.Reads.Post (λ κs e. e.0.now)
  pub drop_member : UniqueState sets.drop_member.Kinds.ps sets.drop_member.Kinds.r sets.drop_member.Reads.Post (λ κs e. e.0.now)
  pub set_cardinality : UniqueState sets.set_cardinality.Kinds.ps sets.set_cardinality.Kinds.r sets.set_cardinality.Reads.Post (λ κs e. e.0.now)

pub record Sessions : Type 0 where
  pub session : UniqueState sessions.session.Kinds.ps sessions.session.Kinds.r sessions.session.Reads.Post (λ κs e. e.0.now)
  pub activate : UniqueState sessions.activate.Kinds.ps sessions.activate.Kinds.r sessions.activate.Reads.Post (λ κs e. e.0.now)
  pub drop : UniqueState sessions.drop.Kinds.ps sessions.drop.Kinds.r sessions.drop.Reads.Post (λ κs e. e.0.now)
  pub end : UniqueState sessions.end.Kinds.ps sessions.end.Kinds.r sessions.end.Reads.Post (λ κs e. e.0.now)

pub record Checking : Type 0 where
  pub owner : Unique checking.owner.Kinds.ps checking.owner.Kinds.r checking.owner.Reads.Post
  pub check : Unique checking.check.Kinds.ps checking.check.Kinds.r checking.check.Reads.Post

pub record Reviews : Type 0 where
  pub assigned_users : UniqueLent reviews.assigned_users.Kinds.ps reviews.assigned_users.Kinds.r reviews.assigned_users.Reads.Post (λ κs e. e.1.1.0.now)
  pub assigned_roles : UniqueLent reviews.assigned_roles.Kinds.ps reviews.assigned_roles.Kinds.r reviews.assigned_roles.Reads.Post (λ κs e. e.1.1.0.now)
  pub auth_users : UniqueLent reviews.auth_users.Kinds.ps reviews.auth_users.Kinds.r reviews.auth_users.Reads.Post (λ κs e. e.1.1.0.now)
  pub auth_roles : UniqueLent reviews.auth_roles.Kinds.ps reviews.auth_roles.Kinds.r reviews.auth_roles.Reads.Post (λ κs e. e.1.1.0.now)
  pub role_perms : UniqueLent reviews.role_perms.Kinds.ps reviews.role_perms.Kinds.r reviews.role_perms.Reads.Post (λ κs e. e.1.1.0.now)
  pub user_perms : UniqueLent reviews.user_perms.Kinds.ps reviews.user_perms.Kinds.r reviews.user_perms.Reads.Post (λ κs e. e.1.1.0.now)
  pub session_roles : UniqueLent reviews.session_roles.Kinds.ps reviews.session_roles.Kinds.r reviews.session_roles.Reads.Post (λ κs e. e.1.1.0.now)
  pub session_perms : UniqueLent reviews.session_perms.Kinds.ps reviews.session_perms.Kinds.r reviews.session_perms.Reads.Post (λ κs e. e.1.1.0.now)
  pub role_ops : UniqueLent reviews.role_ops.Kinds.ps reviews.role_ops.Kinds.r reviews.role_ops.Reads.Post (λ κs e. e.1.1.1.0.now)
  pub user_ops : UniqueLent reviews.user_ops.Kinds.ps reviews.user_ops.Kinds.r reviews.user_ops.Reads.Post (λ κs e. e.1.1.1.0.now)
  pub set_names : UniqueLent reviews.set_names.Kinds.ps reviews.set_names.Kinds.r reviews.set_names.Reads.Post (λ κs e. e.1.1.0.now)
  pub set_roles : UniqueLent reviews.set_roles.Kinds.ps reviews.set_roles.Kinds.r reviews.set_roles.Reads.Post (λ κs e. e.1.1.1.0.now)
  pub set_count : UniqueLent reviews.set_count.Kinds.ps reviews.set_count.Kinds.r reviews.set_count.Reads.Post (λ κs e. e.1.1.1.0.now)

pub record Engine : Type 0 where
  pub step : UniqueState engine.step.Kinds.ps engine.step.Kinds.r engine.step.Reads.Post (λ κs e. e.0.now)
  pub ask : UniqueLent engine.ask.Kinds.ps engine.ask.Kinds.r engine.ask.Reads.Post (λ κs e. e.1.1.0.now)

pub record Text : Type 0 where
  pub put : UniqueLent text.put.Kinds.ps text.put.Kinds.r text.put.Reads.Post (λ κs e. e.0.now)
  pub put_text : UniqueLent text.put_text.Kinds.ps text.put_text.Kinds.r text.put_text.Reads.Post (λ κs e. e.0.now)
  pub word_at : Unique text.word_at.Kinds.ps text.word_at.Kinds.r text.word_at.Reads.Post

pub record Policywrite : Type 0 where
  pub write : UniqueLent policywrite.write.Kinds.ps policywrite.write.Kinds.r policywrite.write.Reads.Post (λ κs e. e.1.0.now)

pub record Policyread : Type 0 where
  pub gather : UniqueState policyread.gather.Kinds.ps policyread.gather.Kinds.r policyread.gather.Reads.Post (λ κs e. e.1.0.now)

pub record Policycheck : Type 0 where
  pub formed : Unique policycheck.formed.Kinds.ps policycheck.formed.Kinds.r policycheck.formed.Reads.Post
  pub broken : Unique policycheck.broken.Kinds.ps policycheck.broken.Kinds.r policycheck.broken.Reads.Post

pub record Policyfile : Type 0 where
  pub save : UniqueLent policyfile.save.Kinds.ps policyfile.save.Kinds.r policyfile.save.Reads.Post (λ κs e. e.1.0.now)
  pub load : UniqueState policyfile.load.Kinds.ps policyfile.load.Kinds.r policyfile.load.Reads.Post (λ κs e. e.0.now)

pub record Decimal : Type 0 where
  pub put_number : UniqueLent decimal.put_number.Kinds.ps decimal.put_number.Kinds.r decimal.put_number.Reads.Post (λ κs e. e.0.now)
  pub put_numbers : UniqueLent decimal.put_numbers.Kinds.ps decimal.put_numbers.Kinds.r decimal.put_numbers.Reads.Post (λ κs e. e.0.now)
  pub value : Unique decimal.value.Kinds.ps decimal.value.Kinds.r decimal.value.Reads.Post

pub record Words : Type 0 where
  pub number : Unique words.number.Kinds.ps words.number.Kinds.r words.number.Reads.Post
  pub numbered : Unique words.numbered.Kinds.ps words.numbered.Kinds.r words.numbered.Reads.Post
  pub which : Unique words.which.Kinds.ps words.which.Kinds.r words.which.Reads.Post
  pub put_word : UniqueLent words.put_word.Kinds.ps words.put_word.Kinds.r words.put_word.Reads.Post (λ κs e. e.0.now)
  pub before_list : Unique words.before_list.Kinds.ps words.before_list.Kinds.r words.before_list.Reads.Post
  pub takes : Unique words.takes.Kinds.ps words.takes.Kinds.r words.takes.Reads.Post

pub record Textlines : Type 0 where
  pub part_at : UniqueSeen textlines.part_at.Kinds.ps textlines.part_at.Kinds.r textlines.part_at.Reads.Post (λ κs x e. x.now)
  pub past : Unique textlines.past.Kinds.ps textlines.past.Kinds.r textlines.past.Reads.Post
  pub reader_next : UniqueSeen {A = List ℕ × Reader} textlines.Reader.next.Kinds.ps textlines.Reader.next.Kinds.r textlines.Reader.next.Reads.Post (λ κs x e. (x.now, e.0.now))
  pub tally_counted : Unique textlines.Tally.counted.Kinds.ps textlines.Tally.counted.Kinds.r textlines.Tally.counted.Reads.Post
  pub tally_bump : UniqueLent textlines.Tally.bump.Kinds.ps textlines.Tally.bump.Kinds.r textlines.Tally.bump.Reads.Post (λ κs e. e.0.now)

pub record Reading : Type 0 where
  pub read_line : Unique reading.read_line.Kinds.ps reading.read_line.Kinds.r reading.read_line.Reads.Post
  pub numbers_as_slice : UniqueSeen reading.Numbers.as_slice.Kinds.ps reading.Numbers.as_slice.Kinds.r reading.Numbers.as_slice.Reads.Post (λ κs x e. x.now)

pub record Meaning : Type 0 where
  pub meaning : Unique meaning.meaning.Kinds.ps meaning.meaning.Kinds.r meaning.meaning.Reads.Post

pub record Script : Type 0 where
  pub answer_text : UniqueLent script.answer_text.Kinds.ps script.answer_text.Kinds.r script.answer_text.Reads.Post (λ κs e. e.0.now)
  pub total_text : UniqueLent script.total_text.Kinds.ps script.total_text.Kinds.r script.total_text.Reads.Post (λ κs e. e.0.now)
  pub answer_line : UniqueBoth script.answer_line.Kinds.ps script.answer_line.Kinds.r script.answer_line.Reads.Post (λ κs e. e.0.now) (λ κs e. e.1.1.0.now)
  pub turn : UniqueBoth script.turn.Kinds.ps script.turn.Kinds.r script.turn.Reads.Post (λ κs e. e.1.0.now) (λ κs e. e.1.1.1.0.now)

pub record Program : Type 0 where
  pub at_first : Unique program.at_first.Kinds.ps program.at_first.Kinds.r program.at_first.Reads.Post
  pub begin : UniqueState program.begin.Kinds.ps program.begin.Kinds.r program.begin.Reads.Post (λ κs e. e.0.now)
  pub next : UniqueBoth program.next.Kinds.ps program.next.Kinds.r program.next.Reads.Post (λ κs e. e.1.0.now) (λ κs e. e.1.1.1.0.now)

pub record Clibrary : Type 0 where
  pub marruskil_start : UniqueState clibrary.marruskil_start.Kinds.ps clibrary.marruskil_start.Kinds.r clibrary.marruskil_start.Reads.Post (λ κs e. e.0.now)
  pub marruskil_obey : UniqueBoth clibrary.marruskil_obey.Kinds.ps clibrary.marruskil_obey.Kinds.r clibrary.marruskil_obey.Reads.Post (λ κs e. e.0.now) (λ κs e. e.1.1.0.now)
  pub marruskil_check : UniqueLent {A = ℕ × ℕ} clibrary.marruskil_check.Kinds.ps clibrary.marruskil_check.Kinds.r clibrary.marruskil_check.Reads.Post (λ κs e. (e.1.1.1.1.0.now, e.1.1.1.1.1.0.now))
  pub marruskil_load : UniqueState clibrary.marruskil_load.Kinds.ps clibrary.marruskil_load.Kinds.r clibrary.marruskil_load.Reads.Post (λ κs e. e.0.now)
  pub marruskil_save : UniqueLent {A = List ℕ × ℕ} clibrary.marruskil_save.Kinds.ps clibrary.marruskil_save.Kinds.r clibrary.marruskil_save.Reads.Post (λ κs e. (e.1.0.now, e.1.1.0.now))

-- ---- end of what tests/unique.py writes
