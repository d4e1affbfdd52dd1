use Rattle.std.proofs.Common.{Some, refl, subst}
use Rattle.raw_reader.specs.Pieces.{MemberIs}
use Rattle.raw_reader.proofs.Putting.{put_version, put_top, put_links, put_reporters, put_closings}
use Rattle.raw_reader.proofs.document.DocumentSlots.set.Goals as goal

pub returns-in-Version : goal.returns-in-Version
returns-in-Version c version k d found said holds =
    let is = subst (λ member. MemberIs version member k d) c.in-Version.is said in
    put_version version c.args.self.now found k d (Some c.in-Version.version) c.in-Version.version is.0 refl is.1 holds

pub returns-in-Top : goal.returns-in-Top
returns-in-Top c version k d found said holds =
    let is = subst (λ member. MemberIs version member k d) c.in-Top.is said in
    put_top version c.args.self.now found k d (Some c.in-Top.top) c.in-Top.top is.0 refl is.1 holds

pub returns-in-Links : goal.returns-in-Links
returns-in-Links c version k d found said holds =
    let is = subst (λ member. MemberIs version member k d) c.in-Links.is said in
    put_links version c.args.self.now found k d (Some c.in-Links.links) c.in-Links.links is.0 refl is.1 holds

pub returns-in-Reporters : goal.returns-in-Reporters
returns-in-Reporters c version k d found said holds =
    let is = subst (λ member. MemberIs version member k d) c.in-Reporters.is said in
    put_reporters version c.args.self.now found k d (Some c.in-Reporters.reporters) c.in-Reporters.reporters is.0 refl is.1 holds

pub returns-in-Closings : goal.returns-in-Closings
returns-in-Closings c version k d found said holds =
    let is = subst (λ member. MemberIs version member k d) c.in-Closings.is said in
    put_closings version c.args.self.now found k d (Some c.in-Closings.closings) c.in-Closings.closings is.0 refl is.1 holds
