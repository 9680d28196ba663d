use Rattle.net_reports.proofs.NetLaws.{driver_none, driver_called}
use Rattle.net_reports.proofs.answers.driver_name.Goals as goal

pub returns-in-Some : goal.returns-in-Some
returns-in-Some c =
    driver_called c.args.store.now c.laws.ensures.numbered c.laws.ensures.linked c.args.net.now c.args.number c.requires.net c.net_driver.result c.net_driver.ensures.driver
    c.in-Some.pin c.pin_name.result.now c.in-Some.is c.pin_name.ensures

pub returns-in-None : goal.returns-in-None
returns-in-None c =
    driver_none c.args.store.now c.laws.ensures.numbered c.laws.ensures.linked c.args.net.now c.args.number c.requires.net c.net_driver.result c.net_driver.ensures.driver
    c.in-None.is
